-- The loop's turn put together from its parts, and the alternation's range. Assumes nothing.
use Rattle.std.specs.Prelude.{◌+◌, ◌%◌, ◌≤◌, ◌≡◌, Bool, Float}
use Rattle.std.proofs.Common.{mod-lt, arith}
use Rattle.carrier.specs.declared.Loop.{Loop}
use Rattle.carrier.specs.Carrier.{phase_error_of, frequency_after_of, phase_after_of, error_after_of, is_locked, loop_after_of}

-- the loop's turn from its parts
pub loop_is : (l : Loop) (phase power : Float) (reliable : Bool) (e frequency error after : Float) (locked : Bool)
    → e ≡ phase_error_of phase → frequency ≡ frequency_after_of l.frequency e → error ≡ error_after_of l.error power → after ≡ phase_after_of l.phase frequency e → locked ≡ is_locked reliable error
    → ◌≡◌ {A = Loop} (record { phase = after; frequency = frequency; alternation = (l.alternation + 1) % 8; locked = locked; error = error }) (loop_after_of l phase power reliable)
unfolding loop_after_of
loop_is l phase power reliable e frequency error after locked is_e is_frequency is_error is_after is_locked_lem = rw (is_locked_lem, is_after, is_error, is_frequency, is_e)

-- THE ALTERNATION stays below 8
pub alternation_below : (l : Loop) (phase power : Float) (reliable : Bool) → (loop_after_of l phase power reliable).alternation ≤ 7
unfolding loop_after_of
alternation_below l phase power reliable = let k = mod-lt (l.alternation + 1) {m = 8} (omega arith) in omega arith
