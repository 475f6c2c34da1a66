-- A contact as numbers.
use Rattle.std.specs.Prelude.{ℕ, false, List, Result, Ok, Err}
use Rattle.format.specs.declared.refusals.Refusal.{Refusal}
use Rattle.m17.specs.Address.{address_number, is_broadcast}
use Rattle.contact.specs.Contact.{blank_contact}
use Rattle.contact.specs.declared.ContactInfo.{ContactInfo}
use Rattle.contact.specs.declared.ContactInfo.TheVariants.{M17, Dmr}
use Rattle.contact.specs.declared.Contact.{Contact}
use Rattle.capi_numbers.specs.Numbers.{refused, refused_by}
use Rattle.capi_convert.specs.Texts.{TextsOut}
use Rattle.capi_numbers.specs.declared.ContactValues.{ContactValues}
use Rattle.capi_convert.specs.declared.contacts.ContactAnswer.{ContactAnswer}

-- the other mode's numbers are 0
abbrev pub contact_values : ContactInfo → ContactValues
contact_values (Dmr d) =
    record { address = 0; id = d.id; mode = 1; contact_type = d.settings.contact_type; rx_tone = d.settings.rx_tone; broadcast = false }
contact_values (M17 a) =
    record { address = address_number a; id = 0; mode = 2; contact_type = 0; rx_tone = false; broadcast = is_broadcast a }

-- ---- what was read of a contact, and its name into a buffer

unfoldable pub contact_to_c : Result Contact Refusal → ContactAnswer
contact_to_c (Ok x) = record { refusal = refused 0 0; values = contact_values x.info }
contact_to_c (Err e) = record { refusal = refused_by e; values = contact_values blank_contact.info }

abbrev pub ContactOut : Result Contact Refusal → List ℕ → ContactAnswer → List ℕ → Type 0
ContactOut = TextsOut (λ x. x.name) contact_to_c 32
