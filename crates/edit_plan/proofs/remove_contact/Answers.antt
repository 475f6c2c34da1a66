-- There is a contact, so the count is not zero.
use Prim.Native.Nat.{◌<◌}
use Rattle.layout.specs.Places.{contact_count}
use Rattle.edit_plan.proofs.PlanLaws.{remove-contact-there, remove-contact}
use native.Mathlib.Omega.{arith}
use Rattle.edit_plan.proofs.remove_contact.Goals as goal
use Rattle.edit_plan.proofs.remove_contact.Goals.{After-shared_slice_known-1}

there : (c : After-shared_slice_known-1)
    → (c.args.i < contact_count c.args.f.now) × (contact_count c.args.f.now < 65536)
there c = remove-contact-there c.args.f.now (λ n. (c.type_inv.f n).fits) c.args.i 0 c.requires

pub overflow_sub-count : goal.overflow_sub-count
overflow_sub-count c = omega (arith, there (goal.at.overflow_sub-count c).After-shared_slice_known-1)

pub contact_place-at-requires : goal.contact_place-at-requires
contact_place-at-requires c = omega (arith, there (goal.at.contact_place-at-requires c).After-shared_slice_known-1)

pub returns : goal.returns
returns c =
    let b = c in
    let s = b in
    remove-contact _ (λ n. (s.type_inv.f n).fits) _ _ _ s.requires c.contact_place-at.ensures.0 (rw b.contact_count.ensures.0)
