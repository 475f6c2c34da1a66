-- Whether a channel's index names a contact, as the test of whole channels asks it.
use Prim.Native.Nat.{ℕ, ◌+◌}
use mathlib.Core.Path.{◌≡◌, refl, sym}
use mathlib.Core.Bool.{Bool, true, false, ◌&&◌, ◌||◌, cond}
use mathlib.Core.List.{List}
use lib.ListN.{get_or}
use lib.Dec.{ltb, eqb}
use Rattle.channel.specs.Values.{contact_index_of}
use Rattle.layout.specs.Places.{contact_count, contact_place}
use Rattle.file_rule.specs.File.{names_contact}
use Rattle.std.specs.Prelude.{Some, None}

-- the kind of contact i, where there is one, is that of the contact looked at
looked : (kind : ℕ → Bool) (i : ℕ) (below : Bool) → below && kind (cond below i 0) ≡ below && kind i
looked kind i true = refl
looked kind i false = refl

names-index : (f : List ℕ) (m i : ℕ)
    → names_contact f m (contact_index_of i) ≡ eqb i 65535 || (ltb i (contact_count f) && eqb (get_or f (contact_place i + 32) 0) m)
unfolding names_contact contact_index_of
names-index f m i = at (eqb i 65535)
  where
    named : Bool
    named = ltb i (contact_count f) && eqb (get_or f (contact_place i + 32) 0) m

    at : (t : Bool) → names_contact f m (cond t None (Some i)) ≡ t || named
    at true = refl
    at false = refl

-- m is the channel's mode, i its index and k the kind of the contact looked at
pub index-named : (f : List ℕ) (m i k : ℕ) → k ≡ get_or f (contact_place (cond (ltb i (contact_count f)) i 0) + 32) 0
    → eqb i 65535 || (ltb i (contact_count f) && eqb k m) ≡ names_contact f m (contact_index_of i)
index-named f m i k e =
    let kind : ℕ → Bool = λ j. eqb (get_or f (contact_place j + 32) 0) m in
    rw (e, looked kind i (ltb i (contact_count f))) (sym (names-index f m i))
