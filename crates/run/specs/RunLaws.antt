-- The run's loop: what each turn asks and leaves. Assumes nothing.
use Rattle.std.specs.Prelude.{◌≡◌, Bool, List, [], ◌∷◌, ◌++◌, ℕ, ◌+◌, ◌-◌, ◌*◌, ◌/◌, ◌^◌, ◌≤◌, ◌<◌, Float}
use Rattle.std.proofs.Math.Path.{refl, ap}
use Rattle.std.proofs.Common.{sym, ◌∙◌}
use native.Mathlib.Omega.{arith}
use Rattle.std.proofs.Math.ListN.{length}
use Rattle.laws.specs.Turns.{turns}
use Rattle.complex.specs.declared.Complex32.{Complex32}
use Rattle.front.specs.declared.Fronted.{Fronted}
use Rattle.front.specs.declared.FrontPlace.{FrontPlace}
use Rattle.front.specs.Front as front
use Rattle.front.specs.Admitted as fit
use Rattle.front.specs.Draws.{next_none, next_on}
use Rattle.front.specs.Rows.{Filled, filled}
use Rattle.chain.specs.Rows.{Lent, values_of, chain_of}
use Rattle.chain.specs.Ranges.{Roomy, Asks}
use Rattle.chain.specs.RowLaws.{Left, chain_none, rows}
use Rattle.run.specs.Run.{Whole, front_at, lent_at, whole_run_of, Going, ReadyRun}

-- a list as long as an empty one is empty
still_none : (l m : List ℕ) → length l ≡ length m → m ≡ [] → l ≡ []
still_none [] m e z = refl
still_none (x ∷ l) m e z = absurd (let n : length m ≡ 0 = ap length z in omega arith)

module _ (conjugated both : Bool) (table xs : List Float) (w : Whole) where
  pub going_start : ReadyRun both table xs w → Going conjugated table xs w w
  unfolding front.front_of turns
  going_start k =
      let z = k.start in record {
        high = omega arith;
        next = next_none w.from w.rung.place k.ready;
        rung = ap (λ (n : ℕ). (front_at conjugated table xs w n).rung) (sym z);
        lent = chain_none w.lent ∙ ap (lent_at conjugated table xs w) (sym z);
        left = record { ranged = k.asks.state; least = omega arith; most = omega arith; symbols = refl; dibits = refl; reliabilities = refl; others = refl; other_reliabilities = refl };
      }

  module _ (v : Whole) (k : ReadyRun both table xs w) (g : Going conjugated table xs w v) where
    pub front_asks : v.from < length xs / 2
        → fit.Admitted v.rung.place × (fit.Numbers xs × ((32 * v.rung.place.resampler.arm ≤ length table) × ((v.rung.place.resampler.index + (length xs / 2 - v.from) ≤ 2 ^ 52) × (v.from ≤ length xs / 2))))
    front_asks l =
        let a = g.next.arm in
        let b = g.next.index in
        let c = k.index_in in
        let d = k.table_in in
        (g.next.admitted, (k.numbers, (omega arith, (omega arith, omega arith))))

    pub chain_asks : (f : Fronted) → w.lent.other.written ≡ w.lent.room.written → v.lent.other.written ≡ v.lent.room.written → fit.CallKeeps (length xs / 2 - v.from) v.rung.place f
        → Asks both f.made v.lent × (f.made ≤ 256)
    chain_asks f first here q =
        let a = k.asks.symbols in
        let b = k.asks.room.dibits in
        let c = k.asks.room.reliabilities in
        let d = g.left.most in
        let e = g.left.symbols in
        let h = g.left.dibits in
        let i = g.left.reliabilities in
        let m = q.few in
        let n = q.most in
        let o = g.high in
        let p = g.left.others in
        let r = g.left.other_reliabilities in
        let roomy : Roomy (2 * (length xs / 2)) w.lent.other → Roomy f.made v.lent.other
        = λ s. (let t = s.dibits in let u = s.reliabilities in record { dibits = omega arith; reliabilities = omega arith }) in (
          record {
            state = g.left.ranged;
            symbols = omega arith;
            room = record { dibits = omega arith; reliabilities = omega arith };
            other = record {
              room = λ t. roomy (k.asks.other.room t);
              no_dibits = λ t. still_none v.lent.other.dibits w.lent.other.dibits p (k.asks.other.no_dibits t);
              no_reliabilities = λ t. still_none v.lent.other.reliabilities w.lent.other.reliabilities r (k.asks.other.no_reliabilities t);
            };
          },
          q.room,
        )

    -- the turn: a row from the front, and the row through the chain
    module _ (f : Fronted) (rr ri yr yi zr zi : List Float) (lr : length rr ≡ 256) (li : length ri ≡ 256)
        (fe : front.front_now f v.from yr yi zr zi ≡ front.filled_of conjugated table xs (front.front_now (front.start_of v.rung.place) v.from v.rung.real v.rung.imaginary rr ri))
        (q : fit.CallKeeps (length xs / 2 - v.from) v.rung.place f) where
      abbrev before : front.Front
      before = front.front_now (front.start_of v.rung.place) v.from v.rung.real v.rung.imaginary rr ri

      abbrev after : front.Front
      after = front.front_now f v.from yr yi zr zi

      abbrev so_far : List Complex32
      so_far = (front_at conjugated table xs w (v.from + 0)).values

      here : v.from ≡ v.from + 0
      here = omega arith

      pub row_filled : Filled conjugated table xs so_far (record { rung = w.rung; values = [] }) (length xs / 2 - (v.from + 0)) before after
      row_filled = filled conjugated table xs (record { rung = w.rung; values = [] }) before after fe refl lr li (g.rung ∙ ap (λ (n : ℕ). (front_at conjugated table xs w n).rung) here)

      values_are : so_far ++ values_of zr zi f.made ≡ (front_at conjugated table xs w (v.from + f.used)).values
      unfolding values_of front.rowed
      values_are = ap (λ (r : front.Run). r.values) row_filled.values

      pub going_on : (l : Lent) → l ≡ chain_of (values_of zr zi f.made) v.lent.state v.lent.records v.lent.room v.lent.other → Left f.made v.lent.state v.lent.room v.lent.other l
          → Going conjugated table xs w (record { rung = record { place = f.place; real = yr; imaginary = yi }; lent = l; from = v.from + f.used })
      going_on l le p =
          let a = q.most in
          let b = q.few in
          let c = g.left.most in
          let d = g.left.symbols in
          let e = g.left.least in
          let h = p.most in
          let i = p.symbols in
          let j = p.least in
          let o = g.high in
          record {
            high = omega arith;
            next = next_on v.from f.used (v.from + f.used) w.rung.place v.rung.place f.place (omega arith) g.next q.next;
            rung = ap (λ (r : front.Run). r.rung) row_filled.values;
            lent =
                le ∙ ap (λ (m : Lent). chain_of (values_of zr zi f.made) m.state m.records m.room m.other) (g.lent ∙ ap (lent_at conjugated table xs w) here)
                ∙ rows so_far (values_of zr zi f.made) w.lent.state w.lent.records w.lent.room w.lent.other k.asks.state
                ∙ ap (λ (zs : List Complex32). chain_of zs w.lent.state w.lent.records w.lent.room w.lent.other) values_are;
            left = record {
              ranged = p.ranged;
              least = omega arith;
              most = omega arith;
              symbols = omega arith;
              dibits = p.dibits ∙ g.left.dibits;
              reliabilities = p.reliabilities ∙ g.left.reliabilities;
              others = p.others ∙ g.left.others;
              other_reliabilities = p.other_reliabilities ∙ g.left.other_reliabilities;
            };
          }

-- the end
module _ (conjugated : Bool) (table xs : List Float) (w : Whole) where
  pub going_end : (v : Whole) → Going conjugated table xs w v → length xs / 2 ≤ v.from → v ≡ whole_run_of conjugated table xs w
  unfolding whole_run_of
  going_end v g l =
      let a = g.high in
      let e : v.from ≡ length xs / 2 = omega arith in
      (λ i. record { rung = g.rung i; lent = g.lent i; from = v.from })
      ∙ (λ i. record { rung = (front_at conjugated table xs w (e i)).rung; lent = lent_at conjugated table xs w (e i); from = e i })

-- a turn uses some samples
pub going_less : (p : FrontPlace) (f : Fronted) (n from : ℕ) → from < n → fit.CallKeeps (n - from) p f → n - (from + f.used) < n - from
going_less p f n from l q = let a = q.some (omega arith) in let b = q.most in omega arith

pub going_within : (p : FrontPlace) (f : Fronted) (n from : ℕ) → from < n → fit.CallKeeps (n - from) p f → from + f.used ≤ n
going_within p f n from l q = let b = q.most in omega arith
