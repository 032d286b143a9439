-- `stepped` meets its contract: above d = 1 what `advanced` leaves and its sums scaled, at d = 1 the sample itself; and it goes on counting to d.
use Rattle.std.proofs.Common.{◌≡◌, le-ltb, lt-ltb, Option, Some, None, MatchOption, IsSomeAnd, ap, rules}
use Rattle.std.specs.Option.{option_map}
use Rattle.decimator.specs.declared.Step.{Step}
use Rattle.decimator.specs.Decimator.{stepped_of, output_of, scaled_of}
use Rattle.decimator.proofs.Values.{stepped_counting}
use Rattle.decimator.proofs.stepped.Goals as goal

-- what the map of an Option gives, where the mapped function gives f
mapped : {A B : Type 0} (f : A → B) (o : Option A) (r : Option B) (Gives : A → B → Type 0) → ((x : A) (y : B) → Gives x y → y ≡ f x) → MatchOption o (r ≡ None) (λ x. IsSomeAnd r (Gives x)) → r ≡ option_map f o
mapped f None r Gives h m = m
mapped f (Some x) None Gives h m = absurd m
mapped f (Some x) (Some y) Gives h m = ap Some (h x y m)

pub returns-then-d-gt1 : goal.returns-then-d-gt1
unfolding stepped_of output_of
returns-then-d-gt1 c =
    let d = c.args.d.decimation in
    let scaled = mapped (scaled_of d) c.advanced-a.result.raw c.map.result _ (λ n z p. search rules) c.map.ensures.cases in
    let e : ◌≡◌ {A = Step} (record { decimator = c.advanced-a.result.decimator; output = c.map.result }) (stepped_of c.args.d c.args.z) =
    rw (lt-ltb _ _ c.if-d-gt1.true, scaled, c.advanced-a.ensures, c.counted.ensures) in
    record { same = e; kept = stepped_counting _ _ _ c.requires e }

pub returns-else-d-gt1 : goal.returns-else-d-gt1
unfolding stepped_of
returns-else-d-gt1 c =
    let e : ◌≡◌ {A = Step} (record { decimator = c.args.d; output = Some c.args.z }) (stepped_of c.args.d c.args.z) = rw (le-ltb _ _ c.if-d-gt1.false) in
    record { same = e; kept = stepped_counting _ _ _ c.requires e }
