-- Whether a legacy channel's contact index names a contact, as the test of whole channels asks it: of the number in its two bytes.
use Prim.Native.Nat.{ℕ}
use mathlib.Core.Path.{◌≡◌}
use mathlib.Core.List.{List}
use lib.ListN.{get_or}
use borrow.Author.Tests.{leb-true}
use Rattle.fields.specs.Bytes.{num}
use Rattle.fields.proofs.Laws.{then-valid, field-valid}
use Rattle.channel.specs.Values.{mode_ok, contact_index_place, contact_index_of}
use Rattle.channel.proofs.Laws.{named-unread-by, dmr-named, m17-named}
use Rattle.file_rule.specs.File.{names_contact, index_ok}
use Rattle.legacy.specs.Reading.{legacy_channel_rule}

pub index_by_bytes : (f s : List ℕ) (p : ℕ)
    → legacy_channel_rule s p (index_ok f s)
    ≡ legacy_channel_rule s p (names_contact f (get_or s 0 0) (contact_index_of (num s (contact_index_place (get_or s 0 0)) 2)))
unfolding legacy_channel_rule index_ok mode_ok
index_by_bytes f s p =
    named-unread-by s p _ _
    (λ e l. rw (dmr-named s e l, e))
    (λ e l. rw (m17-named s e l, e))
    _
    (λ h. leb-true _ _ (field-valid _ _ _ _ _ _ (then-valid _ _ h).0).1)
