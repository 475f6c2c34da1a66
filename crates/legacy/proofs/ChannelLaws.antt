-- Laws of a channel in the new order: what refuses it and what it holds is what it was by the legacy reading, cut or not; no two become the same, and one that is valid
-- by both readings stays.
use Prim.Native.Nat.{ℕ}
use mathlib.Core.Path.{◌≡◌, refl, sym, ◌∙◌}
use mathlib.Core.Bool.{Bool, true}
use mathlib.Core.List.{List, [], ◌∷◌}
use native.Mathlib.Omega.{arith}
use lib.ListN.{get_or}
use Rattle.fields.specs.Bytes.{AllBytes}
use Rattle.channel.specs.Values.{traits_of}
use Rattle.channel.specs.Rule.{head_rule, texts_rule, location_rule, fm_rule, dmr_rule, m17_rule, info_rule, channel_rule, named_contact}
use Rattle.channel.proofs.Laws.{valid-channel}
use Rattle.channel_reader.specs.Reading.{location_of, common_of, fm_of, dmr_of, m17_of, info_of, channel_of}
use Rattle.legacy.specs.Reading.{legacy_number_flag_ok, legacy_channel_rule, legacy_traits_of, legacy_channel_of}
use Rattle.legacy.specs.Migration.{migrated_at, migrated_channel}
use Rattle.legacy.proofs.ByteLaws.{zero_ok, zero_of, migrated-ok, migrated-of, both_zero}
use Rattle.legacy.proofs.RunLaws.{Keeps, KeepsBytes, OneToOne}
use Rattle.legacy.proofs.RecordLaws.{at_here, at_other, at_long, at_one, at-stays, at-bytes}
use Rattle.fields.specs.Rule.{Valid}

pub channel-keeps : Keeps migrated_channel
unfolding migrated_channel
channel-keeps s = at_long 1 s

pub channel-one : OneToOne migrated_channel
unfolding migrated_channel
channel-one s t a b e = at_one 1 s t a b e

pub channel-bytes : KeepsBytes migrated_channel
unfolding migrated_channel
channel-bytes s b = at-bytes 1 s b

-- every byte but the traits stays
pub channel-other : (s : List ℕ) (j : ℕ) → (j ≡ 1 → ⊥) → get_or (migrated_channel s) j 0 ≡ get_or s j 0
unfolding migrated_channel
channel-other s j h = at_other 1 s j h

-- by the record's first two bytes: the traits are the second
pub channel-rule : (s : List ℕ) (p : ℕ) (named : Bool) → AllBytes s
    → channel_rule (migrated_channel s) p named ≡ legacy_channel_rule s p named
unfolding channel_rule head_rule texts_rule location_rule info_rule fm_rule dmr_rule m17_rule legacy_channel_rule migrated_channel
channel-rule [] p named b = rw zero_ok
channel-rule (a ∷ []) p named b = rw zero_ok
channel-rule (a ∷ t ∷ r) p named b = rw (migrated-ok t (b 1))

pub channel-of : (s : List ℕ) → AllBytes s → channel_of (migrated_channel s) ≡ legacy_channel_of s
unfolding channel_of common_of location_of info_of fm_of dmr_of m17_of traits_of legacy_channel_of legacy_traits_of migrated_channel
channel-of [] b = rw zero_of
channel-of (a ∷ []) b = rw zero_of
channel-of (a ∷ t ∷ r) b = rw (migrated-of t (b 1))

-- its mode and the contact that it names stay
pub channel-mode : (s : List ℕ) → get_or (migrated_channel s) 0 0 ≡ get_or s 0 0
channel-mode s = channel-other s 0 (λ h. omega arith)

pub channel-named : (s : List ℕ) → named_contact (migrated_channel s) ≡ named_contact s
unfolding named_contact migrated_channel
channel-named [] = refl
channel-named (a ∷ []) = refl
channel-named (a ∷ t ∷ r) = refl

-- one that is valid by both readings
pub channel-stays : (s : List ℕ) (p q : ℕ) (m n : Bool) → AllBytes s → channel_rule s p m ≡ Valid → legacy_channel_rule s q n ≡ Valid
    → migrated_channel s ≡ s
unfolding migrated_channel
channel-stays s p q m n b c l =
    let v : channel_rule (migrated_at 1 s) q n ≡ Valid = channel-rule s q n b ∙ l in
    let o = rw (at_here 1 s) at (valid-channel (migrated_at 1 s) q n v).traits in
    let k : legacy_number_flag_ok (get_or s 1 0) ≡ true = sym (migrated-ok (get_or s 1 0) (b 1)) ∙ o in
    at-stays 1 s (both_zero (get_or s 1 0) (b 1) (valid-channel s p m c).traits k)
