-- What a change made in place asks of its buffer.
pub mod Room
