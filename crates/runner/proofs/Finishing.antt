-- The steps up to the end of a run.
-- Assumes nothing.
use Rattle.std.proofs.Common.{◌≡◌, ℕ, ◌+◌, ◌<◌, Some, None, Option, ap, sym, ◌∙◌, subst, arith}
use Rattle.runner.specs.declared.job.Job.{Job}
use Rattle.runner.specs.declared.log.Log.{Log}
use Rattle.runner.specs.Ending.{answer_at, end_from, ending}
use Rattle.runner.specs.Filling.{Beyond, Filling, config_at, event_of_step}
use Rattle.runner.specs.Going.{Going, SameRun, Onward, Finished}
use Rattle.runner.proofs.Tables.{beyond_trans}
use Rattle.runner.proofs.Ends.{answered, ends_now, ends_later, ends_out}

-- no step up to step k of the run has answered
abbrev pub Pending : Job → ℕ → Type 0
Pending i k = (m : ℕ) → k + m ≡ i.bound →
    ending i.program.now i.primary.now i.auxiliary.now i.bound ≡ end_from i.program.now i.primary.now i.auxiliary.now k m

-- the run that starts at s0 is at s after k steps
pub record Looped (s0 s : Log) (k : ℕ) : Type 0 where
  pub same : SameRun s0 s
  pub going : Going s
  pub steps : s.steps ≡ k
  pub beyond : Beyond k s0.rows.now s.rows.now
  pub past : Beyond s.touched s0.cells.now s.cells.now
  pub pending : Pending s0.job k

module _ {s0 s r : Log} {k : ℕ} {a : Option ℕ} (l : Looped s0 s k) (t : Onward s r a) where
  abbrev i : Job
  i = s0.job

  same : SameRun s0 r
  same = record { job = t.same.job ∙ l.same.job; rows = t.same.rows ∙ l.same.rows; cells = t.same.cells ∙ l.same.cells; index = t.same.index ∙ l.same.index }

  steps : r.steps ≡ k + 1
  steps = t.steps ∙ ap (λ u. u + 1) l.steps

  answer : a ≡ answer_at i.program.now i.primary.now i.auxiliary.now k
  answer =
      let P : Job → Type 0 = λ j. a ≡ answer_at j.program.now j.primary.now j.auxiliary.now s.steps in
      let Q : ℕ → Type 0 = λ u. a ≡ answer_at i.program.now i.primary.now i.auxiliary.now u in
      subst Q l.steps (subst P l.same.job t.answer)

  filling : Filling (event_of_step i) (config_at i r.steps).memory i.bound r.steps r.touched r.index.now r.rows.now r.cells.now
  filling =
      let P : Job → Type 0 = λ j. Filling (event_of_step j) (config_at j r.steps).memory j.bound r.steps r.touched r.index.now r.rows.now r.cells.now in
      subst P same.job t.going.filling

  beyond : Beyond r.steps s0.rows.now r.rows.now
  beyond = beyond_trans (omega (arith, steps)) l.beyond t.beyond

  past : Beyond r.touched s0.cells.now r.cells.now
  past = beyond_trans t.grown l.past t.past

  pub looped_more : None ≡ a → Looped s0 r (k + 1)
  looped_more none = record {
    same = same;
    going = t.going;
    steps = steps;
    beyond = let P : ℕ → Type 0 = λ u. Beyond u s0.rows.now r.rows.now in subst P steps beyond;
    past = past;
    pending = ends_later i.program.now i.primary.now i.auxiliary.now i.bound k l.pending (k + 1) (sym (none ∙ answer)) (omega arith);
  }

  pub finished_now : (v : ℕ) → k < i.bound → Some v ≡ a → Finished s0 r (Some (answered v r.steps))
  finished_now v more some = record {
    same = same;
    logged = record {
      ends = ends_now i.program.now i.primary.now i.auxiliary.now i.bound k l.pending v r.steps more (sym (some ∙ answer)) steps;
      made = omega (arith, steps);
      filling = filling;
      beyond = beyond;
      past = past;
    };
  }

pub finished_out : {s0 s : Log} {k : ℕ} → Looped s0 s k → k ≡ s0.job.bound → Finished s0 s None
finished_out {s0 = s0} {s = s} {k = k} l end =
    let i = s0.job in
    let P : Job → ℕ → Type 0 = λ j u. Filling (event_of_step j) (config_at j u).memory j.bound u s.touched s.index.now s.rows.now s.cells.now in
    let B : ℕ → Type 0 = λ u. Beyond u s0.rows.now s.rows.now in
    record {
      same = l.same;
      logged = record {
        ends = ends_out i.program.now i.primary.now i.auxiliary.now i.bound k l.pending end;
        made = omega arith;
        filling = subst (P i) (l.steps ∙ end) (subst (λ j. P j s.steps) l.same.job l.going.filling);
        beyond = subst B end l.beyond;
        past = l.past;
      };
    }
