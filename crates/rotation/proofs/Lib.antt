-- Laws of bytes rotated.
pub mod RotationLaws
