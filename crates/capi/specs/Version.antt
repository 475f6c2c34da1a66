-- The version of the C interface: its major, minor and patch number, and one byte for each.
use Rattle.std.specs.Prelude.{ℕ, ◌+◌, ◌*◌}

abbrev pub major : ℕ
major = 3

abbrev pub minor : ℕ
minor = 0

abbrev pub patch : ℕ
patch = 0

abbrev pub version_number : ℕ
version_number = major * 65536 + minor * 256 + patch
