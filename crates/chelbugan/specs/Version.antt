-- Which calls these are, and what they accept: 2.0.1, as one number. The first number counts the shapes of the calls, of which
-- request 5 of document 02 made the second: each call got a library. The second number counts the requests since then that
-- changed what is accepted; the third, what else has changed since then for a host:
-- which refusal is given, or a word of the table.
use Rattle.std.specs.Prelude.{ℕ, ◌+◌, ◌*◌}

abbrev pub major : ℕ
major = 2

abbrev pub minor : ℕ
minor = 0

abbrev pub patch : ℕ
patch = 1

abbrev pub version : ℕ
version = 10_000 * major + 100 * minor + patch
