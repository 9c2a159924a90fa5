-- One step of the run, by what it asks.
-- Assumes nothing.
use Rattle.std.proofs.Common.{◌≡◌, ℕ, suc, cond, eqb, List, Some, Option, sym, ap, ◌∙◌}
use Rattle.machine.specs.declared.cpu.Cpu.{Cpu}
use Rattle.machine.specs.declared.step.Demand.{Demand}
use Rattle.machine.specs.declared.step.Demand.TheVariants.{Nothing, Cell, Primary, Advice, Halt}
use Rattle.machine.specs.Effects as effects
use Rattle.run_log.specs.Log.{Event, quiet, touch}
use Rattle.run_log.specs.Run.{Config, given, shown, stored, unread, head, tail, heard}
use Rattle.tinyram.specs.Program.{outside, supplied, operation, demand}
use Rattle.runner.specs.declared.job.Job.{Job}
use Rattle.runner.specs.Ending.{halted}
use Rattle.runner.specs.Filling.{machine_of, config_at, event_of_step, Quiet}

module _ (i : Job) (T : ℕ) where
  abbrev g : Config Cpu
  g = config_at i T

  abbrev s : Cpu
  s = (config_at i T).state

  -- step T + 1 gets a word or none, shows an event, and leaves this of the tape
  pub record Makes (got : Option ℕ) (event : Event) (tape : List ℕ) : Type 0 where
    pub state : (config_at i (suc T)).state ≡ effects.stepped (operation i.program.now s) got s
    pub shows : event_of_step i T ≡ event
    pub unread : (config_at i (suc T)).tape ≡ tape

  makes : (d : Demand) → demand i.program.now s ≡ d →
      Makes (supplied i.primary.now s d (given (machine_of i) (outside d) g)) (shown (machine_of i) (outside d) g) (unread (machine_of i) (outside d) g)
  makes d e = record {
    state = ap (λ u. effects.stepped (operation i.program.now s) (supplied i.primary.now s u (given (machine_of i) (outside u) g)) s) e;
    shows = ap (λ u. shown (machine_of i) (outside u) g) e;
    unread = ap (λ u. unread (machine_of i) (outside u) g) e;
  }

  memory_is : (d : Demand) → demand i.program.now s ≡ d → (c : ℕ) → (config_at i (suc T)).memory c ≡ stored (machine_of i) (outside d) g c
  memory_is d e c = ap (λ u. stored (machine_of i) (outside u) g c) e

  pub quiet_makes : (d : Demand) (got answer : Option ℕ) → demand i.program.now s ≡ d → Quiet i.primary.now s got answer d → Makes got quiet g.tape
  quiet_makes Nothing got answer e q = rw q.0 (makes Nothing e)
  quiet_makes (Cell c) got answer e q = absurd q
  quiet_makes Primary got answer e q = rw q.0 (makes Primary e)
  quiet_makes Advice got answer e q = absurd q
  quiet_makes (Halt v) got answer e q = rw q.0 (makes (Halt v) e)

  pub quiet_memory : (d : Demand) (got answer : Option ℕ) → demand i.program.now s ≡ d → Quiet i.primary.now s got answer d →
      (c : ℕ) → (config_at i (suc T)).memory c ≡ g.memory c
  quiet_memory Nothing got answer e q = memory_is Nothing e
  quiet_memory (Cell c) got answer e q = absurd q
  quiet_memory Primary got answer e q = memory_is Primary e
  quiet_memory Advice got answer e q = absurd q
  quiet_memory (Halt v) got answer e q = memory_is (Halt v) e

  pub quiet_answer : (d : Demand) (got answer : Option ℕ) → demand i.program.now s ≡ d → Quiet i.primary.now s got answer d →
      answer ≡ halted (demand i.program.now s)
  quiet_answer Nothing got answer e q = q.1 ∙ sym (ap halted e)
  quiet_answer (Cell c) got answer e q = absurd q
  quiet_answer Primary got answer e q = q.1 ∙ sym (ap halted e)
  quiet_answer Advice got answer e q = absurd q
  quiet_answer (Halt v) got answer e q = q.1 ∙ sym (ap halted e)

  pub cell_makes : (c : ℕ) → demand i.program.now s ≡ Cell c →
      Makes (Some (g.memory c)) (touch c (effects.left (operation i.program.now s) s (g.memory c))) g.tape
  cell_makes c e = makes (Cell c) e

  pub cell_memory : (c : ℕ) → demand i.program.now s ≡ Cell c → (d : ℕ) →
      (config_at i (suc T)).memory d ≡ cond (eqb c d) (effects.left (operation i.program.now s) s (g.memory c)) (g.memory d)
  cell_memory c e = memory_is (Cell c) e

  pub advice_makes : demand i.program.now s ≡ Advice → Makes (head g.tape) (heard g.tape) (tail g.tape)
  advice_makes e = makes Advice e

  pub advice_memory : demand i.program.now s ≡ Advice → (d : ℕ) → (config_at i (suc T)).memory d ≡ g.memory d
  advice_memory e = memory_is Advice e
