-- The twelve edits (document 01, "The twelve edits"), on a codeplug's records. Counts and offsets follow.
use Rattle.std.specs.Prelude.{ℕ, zero, suc, ◌+◌, ◌-◌, ◌&&◌, not, cond, List, [], ◌∷◌, ◌++◌, map, take, drop, get_or, leb, ltb, eqb}
use Rattle.fields.specs.Bytes.{num, over, little_bytes, little}
use Rattle.channel.specs.Values.{dmr_contact_at, m17_contact_at}
use Rattle.model.specs.declared.Kind.{Kind}
use Rattle.model.specs.declared.Kind.TheVariants.{InsertContact, RemoveContact, ReplaceContact, InsertChannel, RemoveChannel, ReplaceChannel, InsertBank, RemoveBank, RenameBank, InsertEntry, RemoveEntry, SetHeader}
use Rattle.model.specs.Codeplug.{Bank, Codeplug}

-- ---- lists

module _ {A : Type 0} where
  unfoldable pub insert_at : ℕ → A → List A → List A
  insert_at i x l = take i l ++ (x ∷ drop i l)

  unfoldable pub remove_at : ℕ → List A → List A
  remove_at i l = take i l ++ drop (suc i) l

  unfoldable pub replace_at : ℕ → A → List A → List A
  replace_at i x l = take i l ++ (x ∷ drop (suc i) l)

  -- the element at i changed by g
  unfoldable pub change_at : ℕ → (A → A) → List A → List A
  change_at i g [] = []
  change_at zero g (x ∷ l) = g x ∷ l
  change_at (suc i) g (x ∷ l) = x ∷ change_at i g l

-- ---- indexes that follow an insertion or a removal at i

-- raised by one at or past the place; 65,535 is no index
unfoldable pub raised : ℕ → ℕ → ℕ
raised i x = cond (leb i x && not (eqb x 65535)) (x + 1) x

-- lowered by one past the place; 65,535 is no index
unfoldable pub lowered : ℕ → ℕ → ℕ
lowered i x = cond (ltb i x && not (eqb x 65535)) (x - 1) x

-- the number of two bytes at k moved
unfoldable pub with_index_at : ℕ → (ℕ → ℕ) → List ℕ → List ℕ
with_index_at k move s = over s k (little_bytes 2 (move (num s k 2)))

-- a channel with its contact index moved; an FM channel has none, and an accepted file no other mode
unfoldable pub move_contact : (ℕ → ℕ) → List ℕ → List ℕ
move_contact move s =
    cond (eqb (get_or s 0 0) 1) (with_index_at dmr_contact_at move s)
    (cond (eqb (get_or s 0 0) 2) (with_index_at m17_contact_at move s)
    s)

unfoldable pub move_entries : (ℕ → ℕ) → Bank → Bank
move_entries move b = record { name = b.name; entries = map move b.entries }

-- ---- the codeplug after an edit

unfoldable pub with_contacts : List (List ℕ) → Codeplug → Codeplug
with_contacts l c = record { preamble = c.preamble; contacts = l; channels = c.channels; banks = c.banks }

unfoldable pub with_channels : List (List ℕ) → Codeplug → Codeplug
with_channels l c = record { preamble = c.preamble; contacts = c.contacts; channels = l; banks = c.banks }

unfoldable pub with_banks : List Bank → Codeplug → Codeplug
with_banks l c = record { preamble = c.preamble; contacts = c.contacts; channels = c.channels; banks = l }

unfoldable pub with_preamble : List ℕ → Codeplug → Codeplug
with_preamble s c = record { preamble = s; contacts = c.contacts; channels = c.channels; banks = c.banks }

-- every DMR and M17 channel's contact index moved
unfoldable pub move_contacts : (ℕ → ℕ) → Codeplug → Codeplug
move_contacts move c = with_channels (map (move_contact move) c.channels) c

-- every bank entry moved
unfoldable pub move_channels : (ℕ → ℕ) → Codeplug → Codeplug
move_channels move c = with_banks (map (move_entries move) c.banks) c

unfoldable pub renamed : List ℕ → Bank → Bank
renamed r b = record { name = r; entries = b.entries }

unfoldable pub with_entries : (List ℕ → List ℕ) → Bank → Bank
with_entries g b = record { name = b.name; entries = g b.entries }

unfoldable pub edited : Kind → ℕ → ℕ → List ℕ → Codeplug → Codeplug
edited InsertContact i j r c = with_contacts (insert_at i r c.contacts) (move_contacts (raised i) c)
edited RemoveContact i j r c = with_contacts (remove_at i c.contacts) (move_contacts (lowered i) c)
edited ReplaceContact i j r c = with_contacts (replace_at i r c.contacts) c
edited InsertChannel i j r c = with_channels (insert_at i r c.channels) (move_channels (raised i) c)
edited RemoveChannel i j r c = with_channels (remove_at i c.channels) (move_channels (lowered i) c)
edited ReplaceChannel i j r c = with_channels (replace_at i r c.channels) c
edited InsertBank i j r c = with_banks (insert_at i (record { name = r; entries = [] }) c.banks) c
edited RemoveBank i j r c = with_banks (remove_at i c.banks) c
edited RenameBank i j r c = with_banks (change_at i (renamed r) c.banks) c
edited InsertEntry i j r c = with_banks (change_at i (with_entries (insert_at j (little r))) c.banks) c
edited RemoveEntry i j r c = with_banks (change_at i (with_entries (remove_at j)) c.banks) c
edited SetHeader i j r c = with_preamble (take 10 c.preamble ++ r) c
