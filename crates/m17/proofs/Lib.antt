-- Laws of addresses; that callsigns and numbers map one to one; the two editions beside each other.
pub mod Laws
pub mod OneToOne
pub mod Editions
