-- The state of a refused and of an accepted setup, and what is shown of a state after a block. Definitions only.
use Rattle.std.specs.Prelude.{ℕ, Bool, false, cond, List, ℤ, pos, replicate, Float, None}
use Rattle.std.specs.Float.{binary64}
use Rattle.std.specs.Float.Ieee.{of_bits, mul, div}
use Rattle.numbers.specs.Constants.{zero32, full_turn, zero64}
use Rattle.complex.specs.declared.Planes.{Planes}
use Rattle.signal.specs.Signal as signal
use Rattle.peak.specs.Peak as peak
use Rattle.decimator.specs.Decimator as decimator
use Rattle.oscillator.specs.Oscillator.{fresh_of as fresh_oscillator}
use Rattle.resampler.specs.declared.dimensions.Dimensions.{Dimensions}
use Rattle.resampler.specs.Dimensions as resampler
use Rattle.equalizer.specs.Equalizer as equalizer
use Rattle.sequence.specs.Sequence as sequence
use Rattle.chain.specs.Chain as chain
use Rattle.answers.specs.declared.soft.Records.{Records}
use Rattle.carrier.specs.declared.CarrierPlace.{CarrierPlace}
use Rattle.second.specs.declared.Second.{Second}
use Rattle.front.specs.declared.FrontPlace.{FrontPlace}
use Rattle.chain.specs.declared.ChainPlace.{ChainPlace}
use Rattle.chain.specs.declared.ChainPlanes.{ChainPlanes}
use Rattle.receiver_state.specs.declared.state.Receiver.{Receiver}
use Rattle.receiver_state.specs.declared.state.Snapshot.{Snapshot}

-- ---- every number zero, every flag false, every option absent

abbrev pub zeroes : ℕ → List Float
zeroes n = replicate n zero32

-- these real parts, and imaginary parts of zero
abbrev pub with_real : (n : ℕ) → List Float → Planes n
with_real n real = record { real = real; imaginary = zeroes n }

-- all zero but for the weights and the channels
abbrev pub planes_with : List Float → List Float → ChainPlanes
planes_with weights channels = record {
  recovery = record { keeper = with_real 64 (zeroes 64); clock = with_real 256 (zeroes 256); weights = with_real 21 weights };
  decisions = record { channels = with_real 256 channels; costs = zeroes 64; parents = replicate 2048 0; view = with_real 1024 (zeroes 1024) };
}

unfoldable pub zero_front : FrontPlace
zero_front = record {
  oscillator = record { real = zero64; imaginary = zero64; step_real = zero64; step_imaginary = zero64; renormalize = 0 };
  decimator = decimator.fresh_of 0;
  resampler = record { arm = 0; half = 0; step = zero64; index = 0; next = zero64; write = 0 };
}

unfoldable pub zero_carrier : CarrierPlace
zero_carrier = record {
  turn = record { phase = zero64; frequency = zero64; alternation = 0; locked = false; error = zero64 };
  detector = record { write = 0; filled = 0; previous = None; combined = None; noise = zero32 };
}

unfoldable pub zero_chain : ChainPlace
zero_chain = record {
  keeper = peak.fresh_place;
  clock = record { start = 0; count = 0; position = 0; warm = false; phase = zero32; rate = zero32 };
  carrier = zero_carrier;
  view = signal.fresh_place;
  profile = pos 0;
  symbols = 0;
  locked = 0;
}

abbrev pub no_records : Records
no_records = record { slots = replicate 32 None }

-- the second tracker as long as it is not enabled
unfoldable pub zero_second : Second
zero_second = record { enabled = false; carrier = zero_carrier; records = no_records }

unfoldable pub zero_receiver : Receiver
zero_receiver = record {
  total = 0;
  front = zero_front;
  chain = zero_chain;
  records = no_records;
  ring = with_real 592 (zeroes 592);
  planes = planes_with (zeroes 21) (zeroes 256);
  second = zero_second;
  memory = zeroes 9280;
  ancestors = replicate 2048 0;
}

-- ---- fresh

abbrev pub fresh_front : Float → Float → Dimensions → FrontPlace
fresh_front rate offset d = record { oscillator = fresh_oscillator rate offset; decimator = decimator.fresh_of d.decimation; resampler = resampler.fresh_of d }

unfoldable pub fresh_receiver : FrontPlace → ℤ → Receiver
fresh_receiver front profile = record {
  total = 0;
  front = front;
  chain = chain.fresh_place profile;
  records = sequence.fresh_records;
  ring = with_real 592 (zeroes 592);
  planes = planes_with equalizer.fresh_real sequence.fresh_real;
  second = zero_second;
  memory = zeroes 9280;
  ancestors = replicate 2048 0;
}

-- ---- what is shown

abbrev pub zero_snapshot : Snapshot
zero_snapshot = record { symbols = 0; locked_symbols = 0; carrier_error = zero64; frequency_offset_hz = zero64; carrier_locked = 0; reserved = 0 }

-- the symbols of a second
abbrev pub symbol_rate : Float
symbol_rate = of_bits binary64 0x40b2_c000_0000_0000  -- 4800

-- radians a symbol, in hertz
unfoldable pub hertz_of : Float → Float
hertz_of frequency = div binary64 (mul binary64 frequency symbol_rate) full_turn

abbrev pub flag_of : Bool → ℕ
flag_of b = cond b 1 0

unfoldable pub snapshot_of : ChainPlace → Snapshot
snapshot_of c = record {
  symbols = c.symbols;
  locked_symbols = c.locked;
  carrier_error = c.carrier.turn.error;
  frequency_offset_hz = hertz_of c.carrier.turn.frequency;
  carrier_locked = flag_of c.carrier.turn.locked;
  reserved = 0;
}
