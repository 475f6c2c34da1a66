-- The numbers of the refusals (document 01, "The refusals, by number").
use Rattle.std.specs.Prelude.{ℕ, List, ◌++◌, cond, eqb, codes, decimal}
use Rattle.format.specs.declared.refusals.Reason.{Reason}
use Rattle.format.specs.declared.refusals.Reason.TheVariants as reason
use Rattle.format.specs.declared.refusals.Refusal.{Refusal}

unfoldable pub number_of : Reason → ℕ
number_of reason.TooLong = 1
number_of reason.Cut = 2
number_of reason.Magic = 3
number_of reason.Version = 4
number_of reason.Text = 5
number_of reason.Mode = 6
number_of reason.Value = 7
number_of reason.Address = 8
number_of reason.ContactIndex = 9
number_of reason.BankOffset = 10
number_of reason.BankEntry = 11
number_of reason.Trailing = 12
number_of reason.CallsignLength = 20
number_of reason.CallsignForeign = 21
number_of reason.CallsignSpace = 22
number_of reason.AddressNumber = 23
number_of reason.CallsignBuffer = 24
number_of reason.ShortBuffer = 25
number_of reason.BadLength = 30
number_of reason.BadHistory = 31
number_of reason.NoEdit = 32
number_of reason.NoPlace = 33
number_of reason.Full = 34
number_of reason.InUse = 35
number_of reason.NoRoom = 36
number_of reason.HistoryTooSmall = 37
number_of reason.NoUndo = 38
number_of reason.HistoryEntry = 39
number_of (reason.Other n) = n

-- the reason of a number, the caller's own where document 01 gives it none
unfoldable pub reason_of : ℕ → Reason
reason_of n =
    cond (eqb n 1) reason.TooLong
    (cond (eqb n 2) reason.Cut
    (cond (eqb n 3) reason.Magic
    (cond (eqb n 4) reason.Version
    (cond (eqb n 5) reason.Text
    (cond (eqb n 6) reason.Mode
    (cond (eqb n 7) reason.Value
    (cond (eqb n 8) reason.Address
    (cond (eqb n 9) reason.ContactIndex
    (cond (eqb n 10) reason.BankOffset
    (cond (eqb n 11) reason.BankEntry
    (cond (eqb n 12) reason.Trailing
    (cond (eqb n 20) reason.CallsignLength
    (cond (eqb n 21) reason.CallsignForeign
    (cond (eqb n 22) reason.CallsignSpace
    (cond (eqb n 23) reason.AddressNumber
    (cond (eqb n 24) reason.CallsignBuffer
    (cond (eqb n 25) reason.ShortBuffer
    (cond (eqb n 30) reason.BadLength
    (cond (eqb n 31) reason.BadHistory
    (cond (eqb n 32) reason.NoEdit
    (cond (eqb n 33) reason.NoPlace
    (cond (eqb n 34) reason.Full
    (cond (eqb n 35) reason.InUse
    (cond (eqb n 36) reason.NoRoom
    (cond (eqb n 37) reason.HistoryTooSmall
    (cond (eqb n 38) reason.NoUndo
    (cond (eqb n 39) reason.HistoryEntry
    (reason.Other n))))))))))))))))))))))))))))

-- a refusal in words, as the programs' lines have it
abbrev pub refusal_text : Refusal → List ℕ
refusal_text r = codes "refused " ++ decimal (number_of r.reason) ++ codes " at " ++ decimal r.place
