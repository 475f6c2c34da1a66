-- Document 01's own answers, from before document 02, [10]: what the older edition answers (proofs/Editions.antt). Nothing else rests on these.
use Rattle.std.specs.Prelude.{ℕ, ◌-◌, Bool, true, ◌||◌, not, cond, List, ◌++◌, length, drop, replicate, ltb, eqb, Ok, Err, Result}
use Rattle.m17.specs.declared.Address.{Address}
use Rattle.m17.specs.declared.Address.TheVariants.{Callsign, Broadcast}
use Rattle.m17.specs.declared.Decoded.{Decoded}
use Rattle.m17.specs.declared.Decoded.TheVariants as decoded
use Rattle.m17.specs.Address.{within, address_of, first_foreign, ends_in_space, last_plain, broadcast, text_up_to}
use Rattle.format.specs.declared.refusals.Reason.TheVariants as reason
use Rattle.format.specs.declared.refusals.Refusal.{Refusal}
use Rattle.fields.specs.Rule.{Refused}

unfoldable pub encoding_before : List ℕ → Result ℕ Refusal
encoding_before s =
    cond (not (within 1 9 (length s))) (Refused reason.CallsignLength 0)
    (cond (ltb (first_foreign s) (length s)) (Refused reason.CallsignForeign (first_foreign s))
    (cond (ends_in_space s) (Refused reason.CallsignSpace 0)
    (Ok (address_of s))))

unfoldable pub is_callsign_before : ℕ → Bool
is_callsign_before n = within 1 last_plain n

unfoldable pub address_ok_before : ℕ → Bool
address_ok_before n = is_callsign_before n || eqb n broadcast

unfoldable pub address_valid_before : Address → Bool
address_valid_before (Callsign n) = is_callsign_before n
address_valid_before Broadcast = true

unfoldable pub decoding_before : ℕ → ℕ → Result Decoded Refusal
decoding_before room n =
    cond (ltb room 9) (Refused reason.CallsignBuffer 0)
    (cond (is_callsign_before n) (Ok (decoded.Text (length (text_up_to 9 n))))
    (cond (eqb n broadcast) (Ok decoded.Broadcast)
    (Refused reason.AddressNumber 0)))

unfoldable pub decoded_by_before : Result Decoded Refusal → List ℕ → ℕ → List ℕ
decoded_by_before (Ok (decoded.Text len)) out n = text_up_to 9 n ++ (replicate (9 - length (text_up_to 9 n)) 0 ++ drop 9 out)
decoded_by_before (Ok decoded.Broadcast) out n = out
decoded_by_before (Err e) out n = out

unfoldable pub decoded_into_before : List ℕ → ℕ → List ℕ
decoded_into_before out n = decoded_by_before (decoding_before (length out) n) out n
