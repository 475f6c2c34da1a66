-- Entries of the history (document 01's word for the undo journal; "The history"): p, k, m, then m bytes; newest first.
use Rattle.std.specs.Prelude.{ℕ, zero, suc, ◌+◌, cond, List, [], ◌∷◌, ◌++◌, length, drop, leb, Option, Some, None}
use Rattle.fields.specs.Bytes.{part}
use Rattle.fields.specs.Rule.{unless, Validity}
use Rattle.varint.specs.Number.{number_bytes, number_at}
use Rattle.varint.specs.declared.Number.{Number}
use Rattle.format.specs.declared.refusals.Reason.TheVariants as reason

pub record Entry : Type 0 where
  -- p
  pub place : ℕ
  -- k
  pub put : ℕ
  -- the m old bytes
  pub old : List ℕ

-- ---- an entry as bytes

unfoldable pub entry_bytes : Entry → List ℕ
entry_bytes e = number_bytes e.place ++ (number_bytes e.put ++ (number_bytes (length e.old) ++ e.old))

unfoldable pub entry_size : Entry → ℕ
entry_size e = length (entry_bytes e)

-- 37: a new entry alone exceeds a history buffer of so many bytes
abbrev pub alone_rule : Entry → ℕ → Validity
alone_rule e size = unless (leb (entry_size e) size) reason.HistoryTooSmall 0

unfoldable pub history_bytes : List Entry → List ℕ
history_bytes [] = []
history_bytes (e ∷ es) = entry_bytes e ++ history_bytes es

-- ---- the entries that bytes hold

-- the entry at the front of bytes, and what follows it
pub data Front : Type 0 where
  front : Entry → List ℕ → Front
  none : Front

unfoldable pub with_old : ℕ → ℕ → Option Number → List ℕ → Front
with_old p k (Some m) s =
    cond (leb (m.size + m.value) (length s))
    (front (record { place = p; put = k; old = part s m.size m.value }) (drop (m.size + m.value) s))
    none
with_old p k None s = none

unfoldable pub with_put : ℕ → Option Number → List ℕ → Front
with_put p (Some k) s = with_old p k.value (number_at (drop k.size s)) (drop k.size s)
with_put p None s = none

unfoldable pub with_place : Option Number → List ℕ → Front
with_place (Some p) s = with_put p.value (number_at (drop p.size s)) (drop p.size s)
with_place None s = none

unfoldable pub front_of : List ℕ → Front
front_of s = with_place (number_at s) s

unfoldable pub rest_of : Front → List ℕ
rest_of (front e s) = s
rest_of none = []

-- the whole entries that bytes are, or none
pub data Entries : Type 0 where
  whole : List Entry → Entries
  broken : Entries

unfoldable pub before : Front → Entries → Entries
before (front e s) (whole es) = whole (e ∷ es)
before (front e s) broken = broken
before none t = broken

-- at most n entries
unfoldable pub entries_up_to : ℕ → List ℕ → Entries
entries_up_to zero [] = whole []
entries_up_to zero (b ∷ s) = broken
entries_up_to (suc n) [] = whole []
entries_up_to (suc n) (b ∷ s) = before (front_of (b ∷ s)) (entries_up_to n (rest_of (front_of (b ∷ s))))

unfoldable pub entries_of : List ℕ → Entries
entries_of s = entries_up_to (length s) s
