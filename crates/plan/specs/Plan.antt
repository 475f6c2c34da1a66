-- What a plan makes of a file: indexes or offsets moved in place, bytes cut out or put in, a count written. That a plan makes the file
-- which an edit's rule describes is proved where plans are made.
use Rattle.std.specs.Prelude.{ℕ, List, [], ◌++◌}
use Rattle.fields.specs.Bytes.{over, zeros, little_bytes}
use Rattle.buffers.specs.Cut.{cut}
use Rattle.renumber.specs.Shift.{shift_of, growth_of}
use Rattle.renumber.specs.Moved.{contacts_follow, entries_follow, offsets_moved}
use Rattle.plan.specs.declared.Counted.{Counted}
use Rattle.plan.specs.declared.Table.{Table}
use Rattle.plan.specs.declared.Plan.{Plan}
use Rattle.plan.specs.declared.Plan.TheVariants.{Replace, Contacts, Channels, Entries, AddBank, DropBank}

-- r in place of some bytes, and the count that goes with it
unfoldable pub counted : Counted → List ℕ → List ℕ → List ℕ
counted c r f = over (cut f c.at c.gone r) c.counter (little_bytes 2 c.count)

-- offsets of the table moved
unfoldable pub table_moved : Table → List ℕ → List ℕ
table_moved t f = over f t.start (offsets_moved t.many (growth_of t.growth) f t.start)

unfoldable pub planned : Plan → List ℕ → List ℕ → List ℕ
planned (Replace at) r f = over f at r
planned (Contacts s c) r f = counted c r (contacts_follow (shift_of s) f)
planned (Channels s c) r f = counted c r (entries_follow (shift_of s) f)
planned (Entries t c) r f = counted c r (table_moved t f)
planned (AddBank t at offset c) r f = counted c (little_bytes 4 offset) (cut (table_moved t f) at 0 (r ++ zeros 2))
planned (DropBank t b c) r f = counted c [] (cut (table_moved t f) b.at b.size [])
