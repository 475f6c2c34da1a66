-- The file's answers as numbers, its texts into a lent buffer.
use Rattle.std.specs.Prelude.{ℕ, List, ◌++◌, Result, Ok, Err}
use Rattle.format.specs.declared.refusals.Refusal.{Refusal}
use Rattle.layout.specs.declared.Counts.{Counts}
use Rattle.codeplug.specs.Read.{blank_header, blank_bank}
use Rattle.codeplug.specs.declared.Header.{Header}
use Rattle.codeplug.specs.declared.Bank.{Bank}
use Rattle.entries.specs.declared.EntryStep.{EntryStep}
use Rattle.capi_numbers.specs.Numbers.{refused, refused_by}
use Rattle.capi_convert.specs.Texts.{TextsOut}
use Rattle.capi_convert.specs.declared.files.ValidateAnswer.{ValidateAnswer}
use Rattle.capi_convert.specs.declared.files.HeaderAnswer.{HeaderAnswer}
use Rattle.capi_convert.specs.declared.files.BankAnswer.{BankAnswer}
use Rattle.capi_convert.specs.declared.files.BankEntryAnswer.{BankEntryAnswer}

abbrev pub validate_answer : Result Counts Refusal → ValidateAnswer
validate_answer (Ok c) = record { refusal = refused 0 0; counts = c }
validate_answer (Err e) = record { refusal = refused_by e; counts = record { contacts = 0; channels = 0; banks = 0 } }

-- ---- what was read of the header, and author and description into a buffer

unfoldable pub header_to_c : Result Header Refusal → HeaderAnswer
header_to_c (Ok x) = record { refusal = refused 0 0; timestamp = x.timestamp; counts = x.counts }
header_to_c (Err e) = record { refusal = refused_by e; timestamp = blank_header.timestamp; counts = blank_header.counts }

abbrev pub HeaderOut : Result Header Refusal → List ℕ → HeaderAnswer → List ℕ → Type 0
HeaderOut = TextsOut (λ x. x.author ++ x.description) header_to_c 64

-- ---- what was read of a bank, and its name into a buffer; an entry

unfoldable pub bank_to_c : Result Bank Refusal → BankAnswer
bank_to_c (Ok x) = record { refusal = refused 0 0; entries = x.entries }
bank_to_c (Err e) = record { refusal = refused_by e; entries = blank_bank.entries }

abbrev pub BankOut : Result Bank Refusal → List ℕ → BankAnswer → List ℕ → Type 0
BankOut = TextsOut (λ x. x.name) bank_to_c 32

abbrev pub entry_to_c : Result EntryStep Refusal → BankEntryAnswer
entry_to_c (Ok x) = record { refusal = refused 0 0; channel = x.channel; next = x.next }
entry_to_c (Err e) = record { refusal = refused_by e; channel = 0; next = 0 }
