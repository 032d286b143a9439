-- Constants that several crates' definitions name, as bit patterns. Definitions only.
use Rattle.std.specs.Prelude.{from_bits, Float}
use Rattle.std.specs.Float.{binary32, binary64}

abbrev pub zero32 : Float
zero32 = from_bits binary32 0x0000_0000  -- 0

abbrev pub one32 : Float
one32 = from_bits binary32 0x3f80_0000  -- 1

abbrev pub minus_one32 : Float
minus_one32 = from_bits binary32 0xbf80_0000  -- -1

abbrev pub zero64 : Float
zero64 = from_bits binary64 0x0000_0000_0000_0000  -- 0

abbrev pub one64 : Float
one64 = from_bits binary64 0x3ff0_0000_0000_0000  -- 1

abbrev pub two64 : Float
two64 = from_bits binary64 0x4000_0000_0000_0000  -- 2

-- 2 pi, in radians
abbrev pub full_turn : Float
full_turn = from_bits binary64 0x4019_21fb_5444_2d18  -- 6.283185307179586
