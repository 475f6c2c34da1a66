-- What refuses an edit before its result is read (document 01, "The refusals, by number"): 33, 34 and 35.
use Rattle.std.specs.Prelude.{ℕ, zero, suc, Bool, true, false, ◌&&◌, ◌||◌, not, List, [], ◌∷◌, length, leb, ltb, eqb, Some, None, Option}
use Rattle.channel.specs.Rule.{named_contact}
use Rattle.model.specs.declared.Kind.{Kind}
use Rattle.model.specs.declared.Kind.TheVariants.{InsertContact, RemoveContact, ReplaceContact, InsertChannel, RemoveChannel, ReplaceChannel, InsertBank, RemoveBank, RenameBank, InsertEntry, RemoveEntry, SetHeader}
use Rattle.model.specs.Codeplug.{Bank, Codeplug}

-- how many entries bank i has
unfoldable pub entries_in : ℕ → List Bank → ℕ
entries_in i [] = 0
entries_in zero (b ∷ l) = length b.entries
entries_in (suc i) (b ∷ l) = entries_in i l

-- 33: an insertion's place runs from 0 to the count, any other stays below it, an unused one must be 0
abbrev pub insertion : ℕ → ℕ → Bool
insertion place count = leb place count

abbrev pub existing : ℕ → ℕ → Bool
existing place count = ltb place count

abbrev pub unused : ℕ → Bool
unused place = eqb place 0

abbrev pub place_ok : Kind → ℕ → ℕ → Codeplug → Bool
place_ok InsertContact i j c = insertion i (length c.contacts) && unused j
place_ok RemoveContact i j c = existing i (length c.contacts) && unused j
place_ok ReplaceContact i j c = existing i (length c.contacts) && unused j
place_ok InsertChannel i j c = insertion i (length c.channels) && unused j
place_ok RemoveChannel i j c = existing i (length c.channels) && unused j
place_ok ReplaceChannel i j c = existing i (length c.channels) && unused j
place_ok InsertBank i j c = insertion i (length c.banks) && unused j
place_ok RemoveBank i j c = existing i (length c.banks) && unused j
place_ok RenameBank i j c = existing i (length c.banks) && unused j
place_ok InsertEntry i j c = existing i (length c.banks) && insertion j (entries_in i c.banks)
place_ok RemoveEntry i j c = existing i (length c.banks) && existing j (entries_in i c.banks)
place_ok SetHeader i j c = unused i && unused j

-- 34: the count to grow is 65,535
abbrev pub can_grow : ℕ → Bool
can_grow count = not (eqb count 65535)

abbrev pub count_ok : Kind → ℕ → Codeplug → Bool
count_ok InsertContact i c = can_grow (length c.contacts)
count_ok RemoveContact i c = true
count_ok ReplaceContact i c = true
count_ok InsertChannel i c = can_grow (length c.channels)
count_ok RemoveChannel i c = true
count_ok ReplaceChannel i c = true
count_ok InsertBank i c = can_grow (length c.banks)
count_ok RemoveBank i c = true
count_ok RenameBank i c = true
count_ok InsertEntry i c = can_grow (entries_in i c.banks)
count_ok RemoveEntry i c = true
count_ok SetHeader i c = true

-- 35: some DMR or M17 channel names contact i
unfoldable pub is_index : ℕ → Option ℕ → Bool
is_index i None = false
is_index i (Some x) = eqb x i

unfoldable pub some_names : ℕ → List (List ℕ) → Bool
some_names i [] = false
some_names i (s ∷ l) = is_index i (named_contact s) || some_names i l

-- 35: some bank holds channel i
unfoldable pub holds_channel : ℕ → List ℕ → Bool
holds_channel i [] = false
holds_channel i (x ∷ l) = eqb x i || holds_channel i l

unfoldable pub some_holds : ℕ → List Bank → Bool
some_holds i [] = false
some_holds i (b ∷ l) = holds_channel i b.entries || some_holds i l

abbrev pub in_use : Kind → ℕ → Codeplug → Bool
in_use InsertContact i c = false
in_use RemoveContact i c = some_names i c.channels
in_use ReplaceContact i c = false
in_use InsertChannel i c = false
in_use RemoveChannel i c = some_holds i c.banks
in_use ReplaceChannel i c = false
in_use InsertBank i c = false
in_use RemoveBank i c = false
in_use RenameBank i c = false
in_use InsertEntry i c = false
in_use RemoveEntry i c = false
in_use SetHeader i c = false
