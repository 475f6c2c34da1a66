-- The entry of a change, and the change taken back (document 01, "The history").
use Rattle.std.specs.Prelude.{ℕ, ◌+◌, ◌-◌, List, length, drop}
use Rattle.fields.specs.Bytes.{part}
use Rattle.affixes.specs.Common.{common_prefix, common_suffix}
use Rattle.buffers.specs.Cut.{cut}
use Rattle.journal.specs.Entry.{Entry}

-- p is the longest common beginning of the old and new file; s is the longest common ending of what follows it in each
unfoldable pub suffix_length : List ℕ → List ℕ → ℕ
suffix_length old new = common_suffix (drop (common_prefix old new) old) (drop (common_prefix old new) new)

-- k and m are the lengths between, in the new and the old file; the m bytes are the old ones
abbrev pub entry_between : ℕ → ℕ → List ℕ → List ℕ → Entry
entry_between p s old new = record { place = p; put = length new - (p + s); old = part old p (length old - (p + s)) }

unfoldable pub entry_of : List ℕ → List ℕ → Entry
entry_of old new = entry_between (common_prefix old new) (suffix_length old new) old new

-- undo puts the m bytes in place of the k bytes at p
unfoldable pub revert : Entry → List ℕ → List ℕ
revert e new = cut new e.place e.put e.old
