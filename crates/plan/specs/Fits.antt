-- Where a plan's places stand in a file; true of every plan that is made for an accepted file.
use Rattle.std.specs.Prelude.{ℕ, ◌+◌, ◌*◌, ◌%◌, ◌≤◌, ◌<◌, ◌≡◌, List, length, get_or}
use Rattle.fields.specs.Bytes.{num}
use Rattle.layout.specs.Places.{channel_count, bank_count, channel_place, banks_place}
use Rattle.layout.specs.Banks.{bank_from}
use Rattle.renumber.specs.Shift.{growth_of}
use Rattle.plan.specs.declared.Counted.{Counted}
use Rattle.plan.specs.declared.Table.{Table}
use Rattle.plan.specs.declared.Plan.{Plan}
use Rattle.plan.specs.declared.Plan.TheVariants.{Replace, Contacts, Channels, Entries, AddBank, DropBank}

-- the count stands before the cut, the cut inside the first `end` bytes, and the count's low byte changes
pub record CountedFits (c : Counted) (f : List ℕ) (end : ℕ) : Type 0 where
  pub before : c.counter + 2 ≤ c.at
  pub inside : c.at + c.gone ≤ end
  pub end-inside : end ≤ length f
  pub changes : c.count % 256 ≡ get_or f c.counter 0 → ⊥

-- the table's offsets stand before `end`
pub record TableFits (t : Table) (f : List ℕ) (end : ℕ) : Type 0 where
  pub header : 88 ≤ t.start
  pub before : t.start + t.many * 4 ≤ end
  pub few : t.many < 65536

-- the low byte of the first offset that moves changes
unfoldable pub FirstChanges : Table → List ℕ → Type 0
FirstChanges t f = 0 < t.many → growth_of t.growth (num f t.start 4) % 256 ≡ get_or f t.start 0 → ⊥

unfoldable pub Fits : Plan → List ℕ → List ℕ → Type 0
Fits (Replace at) r f = at + length r ≤ length f
Fits (Contacts s c) r f =
    CountedFits c f (channel_place f 0)
    × ((channel_place f 0 + channel_count f * 90 ≤ length f) × (c.counter ≡ 82))
Fits (Channels s c) r f =
    CountedFits c f (banks_place f)
    × ((bank_from f (bank_count f) (banks_place f) ≤ length f) × (c.counter ≡ 84))
Fits (Entries t c) r f = CountedFits c f (length f) × (TableFits t f c.counter × FirstChanges t f)
Fits (AddBank t at offset c) r f =
    CountedFits c f t.start
    × (TableFits t f at × ((at ≤ length f) × ((c.counter ≡ 86) × ((c.at ≡ t.start) × ((c.gone ≡ 0) × (length r ≡ 32))))))
Fits (DropBank t b c) r f =
    CountedFits c f t.start
    × (TableFits t f b.at × ((b.at + b.size ≤ length f) × ((c.counter ≡ 86) × ((c.at + c.gone ≡ t.start) × (length r ≡ 0)))))
