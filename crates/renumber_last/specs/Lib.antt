-- Where a renumbering's last change stands. No promise to a caller rests on this.
pub mod Last
