-- Laws of what two lists have in common.
pub mod Laws
pub mod ChunkLaws
pub mod PieceLaws
