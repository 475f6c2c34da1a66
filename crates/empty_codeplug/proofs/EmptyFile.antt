-- The empty codeplug is accepted, with no contact, channel or bank. Each side computes.
use mathlib.Core.Path.{◌≡◌, refl}
use mathlib.Core.List.{[]}
use Rattle.fields.specs.Bytes.{zeros, little}
use Rattle.fields.specs.Rule.{◌then◌, unless, field_of, each}
use Rattle.text.specs.Text.{printable, plain_text, all_zero, text_of, text_ok}
use Rattle.m17.specs.declared.Edition.{Edition}
use Rattle.layout.specs.Header.{identity_rule, header_rule}
use Rattle.layout.specs.Places.{contact_count, channel_count, bank_count, counts_of, contact_place, channel_place, offset_place, banks_place}
use Rattle.layout.specs.Banks.{offsets_rule, banks_from, banks_rule}
use Rattle.file_rule.specs.File.{contacts_rule, channels_rule, file_rule}
use Rattle.validation.specs.Validation.{validated_by, validation}
use Rattle.model.specs.Codeplug.{codeplug_of, blocks, banks_at}
use Rattle.empty_codeplug.specs.Empty.{empty_codeplug}
use Rattle.std.specs.Prelude.{Ok}

pub empty-accepted : (ed : Edition) → validation ed empty_codeplug ≡ Ok (record { contacts = 0; channels = 0; banks = 0 })
unfolding empty_codeplug zeros little ◌then◌ unless field_of each printable plain_text all_zero text_of text_ok identity_rule header_rule contact_count channel_count bank_count counts_of contact_place channel_place offset_place banks_place offsets_rule banks_from banks_rule contacts_rule channels_rule file_rule validated_by validation
empty-accepted ed = refl

pub empty-holds-nothing : ((codeplug_of empty_codeplug).contacts ≡ []) × ((codeplug_of empty_codeplug).channels ≡ []) × ((codeplug_of empty_codeplug).banks ≡ [])
unfolding empty_codeplug zeros little codeplug_of blocks banks_at contact_count channel_count bank_count contact_place channel_place offset_place banks_place
empty-holds-nothing = (refl, refl, refl)
