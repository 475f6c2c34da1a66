-- Refusals, and the answers of the two calls, of addresses and of tones, as numbers.
use Rattle.std.specs.Prelude.{ℕ, true, false, Option, Some, None, Result, Ok, Err}
use Rattle.format.specs.Refusals.{number_of}
use Rattle.format.specs.declared.refusals.Refusal.{Refusal}
use Rattle.fields.specs.Rule.{Validity}
use Rattle.journal.specs.declared.answer.Done.{Done}
use Rattle.m17.specs.declared.Decoded.{Decoded}
use Rattle.m17.specs.declared.Decoded.TheVariants as decoded
use Rattle.capi_numbers.specs.declared.RefusalAnswer.{RefusalAnswer}
use Rattle.capi_numbers.specs.declared.EditAnswer.{EditAnswer}
use Rattle.capi_numbers.specs.declared.EncodeAnswer.{EncodeAnswer}
use Rattle.capi_numbers.specs.declared.DecodeAnswer.{DecodeAnswer}

-- a refusal's number, 0 for none, and its place
abbrev pub refused : ℕ → ℕ → RefusalAnswer
refused n p = record { number = n; place = p }

abbrev pub refused_by : Refusal → RefusalAnswer
refused_by e = refused (number_of e.reason) e.place

abbrev pub refusal_of : Validity → RefusalAnswer
refusal_of (Ok u) = refused 0 0
refusal_of (Err e) = refused_by e

-- of a call with these two lengths: a refused one changes nothing, lengths included
abbrev pub edit_answer : Result Done Refusal → ℕ → ℕ → EditAnswer
edit_answer (Ok x) length-given used-given = record { refusal = refused 0 0; length = x.len; used = x.used; entries = x.entries }
edit_answer (Err e) length-given used-given = record { refusal = refused_by e; length = length-given; used = used-given; entries = 0 }

abbrev pub encode_answer : Result ℕ Refusal → EncodeAnswer
encode_answer (Ok a) = record { refusal = refused 0 0; address = a }
encode_answer (Err e) = record { refusal = refused_by e; address = 0 }

abbrev pub decode_answer : Result Decoded Refusal → DecodeAnswer
decode_answer (Ok (decoded.Text len)) = record { refusal = refused 0 0; length = len; broadcast = false }
decode_answer (Ok decoded.Broadcast) = record { refusal = refused 0 0; length = 0; broadcast = true }
decode_answer (Err e) = record { refusal = refused_by e; length = 0; broadcast = false }

-- no tone has frequency 0
abbrev pub tenths_of : Option ℕ → ℕ
tenths_of (Some t) = t
tenths_of None = 0

-- no tone has index 255
abbrev pub index_number : Option ℕ → ℕ
index_number (Some i) = i
index_number None = 255
