-- What the proofs use.
mod ContactLaws
