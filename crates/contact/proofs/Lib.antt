-- Laws of contact records, that writing and reading undo each other, and that the older edition reads and writes as before.
pub mod Laws
pub mod RoundTrip
pub mod OlderLaws
