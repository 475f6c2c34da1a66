-- Laws on a change's place and lengths.
pub mod MeasureLaws
pub mod ApartLaws
pub mod TableLaws
pub mod RenumberedLaws
