-- Each edition's last number is the definition's.
use Rattle.m17.proofs.last_of.Goals as goal

pub returns-in-Older : goal.returns-in-Older
returns-in-Older c = rw c.in-Older.is

pub returns-in-Newer : goal.returns-in-Newer
returns-in-Newer c = rw c.in-Newer.is
