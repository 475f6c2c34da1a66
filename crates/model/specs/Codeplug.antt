-- A codeplug as lists of records, and the file that holds them (document 01, "The file"). Counts and offsets are not kept: they follow.
use Rattle.std.specs.Prelude.{ℕ, zero, suc, ◌+◌, List, [], ◌∷◌, ◌++◌, map, length, take, drop}
use Rattle.fields.specs.Bytes.{part, num, little_bytes}
use Rattle.layout.specs.Places.{contact_count, channel_count, bank_count, contact_place, channel_place, banks_place}
use Rattle.layout.specs.Banks.{entry_count, next_bank}

-- a bank: its name's 32 bytes and its channel indexes
pub record Bank : Type 0 where
  pub name : List ℕ
  pub entries : List ℕ

-- the header's 82 bytes before the counts, contacts of 39 bytes, channels of 90, banks
pub record Codeplug : Type 0 where
  pub preamble : List ℕ
  pub contacts : List (List ℕ)
  pub channels : List (List ℕ)
  pub banks : List Bank

-- ---- the file of a codeplug

unfoldable pub joined : List (List ℕ) → List ℕ
joined [] = []
joined (s ∷ l) = s ++ joined l

-- numbers of two bytes each
unfoldable pub pairs : List ℕ → List ℕ
pairs [] = []
pairs (x ∷ l) = little_bytes 2 x ++ pairs l

unfoldable pub bank_bytes : Bank → List ℕ
bank_bytes b = b.name ++ (little_bytes 2 (length b.entries) ++ pairs b.entries)

-- where each bank starts, counted from the first byte after the table, the first one at `at`
unfoldable pub offsets_from : ℕ → List Bank → List ℕ
offsets_from at [] = []
offsets_from at (b ∷ l) = little_bytes 4 at ++ offsets_from (at + length (bank_bytes b)) l

unfoldable pub count_bytes : Codeplug → List ℕ
count_bytes c = little_bytes 2 (length c.contacts) ++ (little_bytes 2 (length c.channels) ++ little_bytes 2 (length c.banks))

unfoldable pub codeplug_bytes : Codeplug → List ℕ
codeplug_bytes c =
    c.preamble ++ (count_bytes c ++ (joined c.contacts ++ (joined c.channels ++
    (offsets_from 0 c.banks ++ joined (map bank_bytes c.banks)))))

-- ---- the codeplug of a file

-- n blocks of w bytes from the front of s
unfoldable pub blocks : ℕ → ℕ → List ℕ → List (List ℕ)
blocks w zero s = []
blocks w (suc n) s = take w s ∷ blocks w n (drop w s)

-- n numbers of two bytes from place p on
unfoldable pub indexes_at : List ℕ → ℕ → ℕ → List ℕ
indexes_at f zero p = []
indexes_at f (suc n) p = num f p 2 ∷ indexes_at f n (p + 2)

unfoldable pub banks_at : List ℕ → ℕ → ℕ → List Bank
banks_at f zero p = []
banks_at f (suc n) p =
    record { name = part f p 32; entries = indexes_at f (entry_count f p) (p + 34) } ∷ banks_at f n (next_bank f p)

unfoldable pub codeplug_of : List ℕ → Codeplug
codeplug_of f =
    record {
      preamble = take 82 f;
      contacts = blocks 39 (contact_count f) (drop (contact_place 0) f);
      channels = blocks 90 (channel_count f) (drop (channel_place f 0) f);
      banks = banks_at f (bank_count f) (banks_place f);
    }
