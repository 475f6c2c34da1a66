-- Tones (document 01, "The file"): the top bit of a tone byte says enabled and the other seven are the index, 0 to 49, in the table of
-- 50 tones of source 000. A disabled tone keeps its index and the same rule.
use Rattle.std.specs.Prelude.{ℕ, ◌+◌, ◌%◌, Bool, true, false, cond, List, [], ◌∷◌, leb, ltb, eqb, Option}
use Rattle.std.specs.List.{slice_get, position_from}
use Rattle.tones.specs.declared.Tone.{Tone}
use Rattle.tones.specs.declared.Tone.TheVariants.{Enabled, Disabled}

-- the table of 50 tones, in tenths of a hertz
unfoldable pub tone_table : List ℕ
tone_table =
    670 ∷ 693 ∷ 719 ∷ 744 ∷ 770 ∷ 797 ∷ 825 ∷ 854 ∷ 885 ∷ 915 ∷
    948 ∷ 974 ∷ 1000 ∷ 1034 ∷ 1072 ∷ 1109 ∷ 1148 ∷ 1188 ∷ 1230 ∷ 1273 ∷
    1318 ∷ 1365 ∷ 1413 ∷ 1462 ∷ 1514 ∷ 1567 ∷ 1598 ∷ 1622 ∷ 1655 ∷ 1679 ∷
    1713 ∷ 1738 ∷ 1773 ∷ 1799 ∷ 1835 ∷ 1862 ∷ 1899 ∷ 1928 ∷ 1966 ∷ 1995 ∷
    2035 ∷ 2065 ∷ 2107 ∷ 2181 ∷ 2257 ∷ 2291 ∷ 2336 ∷ 2418 ∷ 2503 ∷ 2541 ∷ []

abbrev pub in_table : ℕ → Bool
in_table i = ltb i 50

-- ---- a tone byte

unfoldable pub tone_ok : ℕ → Bool
tone_ok b = in_table (b % 128)

unfoldable pub tone_of : ℕ → Tone
tone_of b = cond (leb 128 b) (Enabled (b % 128)) (Disabled (b % 128))

unfoldable pub tone_index : Tone → ℕ
tone_index (Enabled i) = i
tone_index (Disabled i) = i

abbrev pub tone_enabled : Tone → Bool
tone_enabled (Enabled i) = true
tone_enabled (Disabled i) = false

abbrev pub tone_from : ℕ → Bool → Tone
tone_from i enabled = cond enabled (Enabled i) (Disabled i)

unfoldable pub tone_byte : Tone → ℕ
tone_byte (Enabled i) = 128 + i
tone_byte (Disabled i) = i

-- a tone whose index is in the table
unfoldable pub tone_valid : Tone → Bool
tone_valid t = in_table (tone_index t)

-- ---- what a tone means

-- the frequency of an index, in tenths of a hertz
unfoldable pub frequency_of : ℕ → Option ℕ
frequency_of i = slice_get tone_table i

-- the index of a frequency: where the table has it first
unfoldable pub index_of : ℕ → Option ℕ
index_of x = position_from (λ t. eqb t x) 0 tone_table
