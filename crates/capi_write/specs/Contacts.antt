-- A contact written from its numbers.
use Rattle.std.specs.Prelude.{◌≡◌, ℕ, cond, List, length, eqb, leb}
use Rattle.text.specs.Text.{given_ok}
use Rattle.fields.specs.Rule.{◌then◌, unless, written}
use Rattle.m17.specs.declared.Edition.{Edition}
use Rattle.m17.specs.declared.Address.TheVariants.{Callsign, Broadcast}
use Rattle.contact.specs.Contact.{mode_ok, contact_write_rule, contact_bytes}
use Rattle.contact.specs.declared.ContactInfo.{ContactInfo}
use Rattle.contact.specs.declared.ContactInfo.TheVariants.{M17, Dmr}
use Rattle.capi_numbers.specs.Numbers.{refusal_of}
use Rattle.capi_numbers.specs.declared.RefusalAnswer.{RefusalAnswer}
use Rattle.capi_numbers.specs.declared.ContactValues.{ContactValues}
use Rattle.format.specs.declared.refusals.Reason.TheVariants as reason
use Rattle.fields.specs.Rule.{Validity}

-- what the numbers mean, the other mode's unread, and the address too where `broadcast` is set; only of use where the mode is valid
abbrev pub info_from : ContactValues → ContactInfo
info_from v =
    cond (eqb v.mode 1)
    (Dmr (record { id = v.id; settings = record { contact_type = v.contact_type; rx_tone = v.rx_tone } }))
    (M17 (cond v.broadcast Broadcast (Callsign v.address)))

-- ---- a contact: what the library's writer refuses, the mode validated in its turn, at 32, after 25 and the name

unfoldable pub contact_from_c_rule : Edition → ℕ → List ℕ → ContactValues → Validity
contact_from_c_rule e size name v =
    unless (leb 39 size) reason.ShortBuffer 0
    then unless (given_ok name) reason.Text 0
    then unless (mode_ok v.mode) reason.Mode 32
    then contact_write_rule e size name (info_from v)

-- the later contents of the buffer
unfoldable pub contact_from_c_written : Edition → List ℕ → List ℕ → ContactValues → List ℕ
contact_from_c_written e out name v = written (contact_from_c_rule e (length out) name v) out (contact_bytes name (info_from v))

-- a refusal, and the buffer after it
abbrev pub ContactFromC : Edition → List ℕ → List ℕ → ContactValues → RefusalAnswer → List ℕ → Type 0
ContactFromC e out name v r after = (r ≡ refusal_of (contact_from_c_rule e (length out) name v)) × (after ≡ contact_from_c_written e out name v)
