-- The numbers that refuse, by name, as document 01 lists them: 1 to 17 from the input, 21 to 24 from the state. Assumes nothing.
use Rattle.std.specs.Prelude.{ℕ}

-- the population
abbrev pub POPULATION : ℕ
POPULATION = 1

-- the fault tolerance
abbrev pub TOLERANCE : ℕ
TOLERANCE = 2

-- the own, a peer's or the source's number is not below the population
abbrev pub REPLICA : ℕ
REPLICA = 3

-- the data shards or the width
abbrev pub SHARDS : ℕ
SHARDS = 4

-- the quorum or the majority
abbrev pub QUORUM : ℕ
QUORUM = 5

-- a text too long, or with a byte above 127
abbrev pub TEXT : ℕ
TEXT = 6

-- a malformed numeral, or a whole number above 255
abbrev pub NUMERAL : ℕ
NUMERAL = 7

-- a well-formed decimal beyond the digit rule
abbrev pub DIGITS : ℕ
DIGITS = 8

-- a replica or shard number in a text or a profile outside its range
abbrev pub MEMBER : ℕ
MEMBER = 9

-- an unknown mechanism
abbrev pub MECHANISM : ℕ
MECHANISM = 10

-- probabilities: their count, one of them, or the threshold
abbrev pub PROBABILITIES : ℕ
PROBABILITIES = 11

-- a 65th domain
abbrev pub DOMAINS : ℕ
DOMAINS = 12

-- a layout text that is neither a fitting number nor segments with colons
abbrev pub LAYOUT : ℕ
LAYOUT = 13

-- total shards no multiple of the population, or data shards no multiple of the majority
abbrev pub MULTIPLE : ℕ
MULTIPLE = 14

-- the size or the bytes in flight too large
abbrev pub BYTES : ℕ
BYTES = 15

-- a row with a shard at or above the width, or a mask with a replica at or above the population
abbrev pub MASK : ℕ
MASK = 16

-- a lent table of the wrong length, or no fault list
abbrev pub TABLE : ℕ
TABLE = 17

-- the profile and the tolerance give a set that contains every replica
abbrev pub EVERY_REPLICA : ℕ
EVERY_REPLICA = 21

-- more maximal sets than words in the lent list
abbrev pub ROOM : ℕ
ROOM = 22

-- a reply whose ballot or value id differs from the tally's
abbrev pub OTHER_VALUE : ℕ
OTHER_VALUE = 23

-- a trimmed plan that no longer commits
abbrev pub TRIMMED : ℕ
TRIMMED = 24
