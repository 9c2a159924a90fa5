-- The effects keep the laws of one step.
use Rattle.std.proofs.Common.{◌≡◌, ℕ, Bool, true, false, cond, eqb, ltb, ◌≢◌, Some, None, Option, sym, refl, ap, subst, arith, get_or-set_other}
use Rattle.word.specs.declared.cell.Size.{Size}
use Rattle.word.specs.Cell.{Bytewise}
use Rattle.word.proofs.Bytes.{bytewise}
use Rattle.encoding.specs.declared.operation.Condition.{Condition}
use Rattle.encoding.specs.declared.operation.Operand.{Operand}
use Rattle.encoding.specs.declared.operation.Operation.{Operation}
use Rattle.encoding.specs.declared.operation.Operation.TheVariants.{Compute, Not, Compare, Move, MoveIfFlag, Jump, Store, Load, Read, Answer}
use Rattle.machine.specs.declared.step.Demand.{Demand}
use Rattle.machine.specs.declared.step.Demand.TheVariants.{Primary}
use Rattle.machine.specs.declared.cpu.Cpu.{Cpu}
use Rattle.machine.specs.State.{register_of, value_of, holds, advanced, jumped, written, flagged, passed}
use Rattle.machine.specs.Effects.{asked, tape_asked, left, received, stepped}
use Rattle.machine.specs.Laws.{Leaves, changes, following, Frame}

-- MEMORY

only_stores : (o : Operation) (s : Cpu) (n : ℕ) → ((z : Size) (i : ℕ) (a : Operand) → o ≡ Store z i a → ⊥) → left o s n ≡ n
only_stores (Compute b i j a) s n h = refl
only_stores (Not i a) s n h = refl
only_stores (Compare b j a) s n h = refl
only_stores (Move i a) s n h = refl
only_stores (MoveIfFlag i a) s n h = refl
only_stores (Jump w a) s n h = refl
only_stores (Store z i a) s n h = absurd (h z i a refl)
only_stores (Load z i a) s n h = refl
only_stores (Read i a) s n h = refl
only_stores (Answer a) s n h = refl

pub left_leaves : (o : Operation) (s : Cpu) (n : ℕ) → Leaves o s n (left o s n)
left_leaves o s n = record {
  store = λ z i a e. subst (λ (x : Operation). Bytewise z (value_of s a) (register_of s i) n (left x s n)) (sym e) (bytewise z (value_of s a) (register_of s i) n);
  other = only_stores o s n;
}

-- THE STATE

-- a fact of the state holds of one of two states if it holds of both
either : (P : Cpu → Type 0) (b : Bool) (x y : Cpu) → P x → P y → P (cond b x y)
either P true x y p q = p
either P false x y p q = q

no_flag : {P : Type 0} → true ≡ false → P
no_flag e = let z : ◌≡◌ {A = ℕ} 0 1 = cc in absurd (omega arith)

beside : (s : Cpu) (i k n : ℕ) → (Some i ≡ Some k → ⊥) → register_of (written s i n) k ≡ register_of s k
beside s i k n h = let ne : k ≢ i = λ e. h (ap Some (sym e)) in get_or-set_other s.registers i k n 0 ne

module _ (s : Cpu) where
  Keeps : ℕ → Cpu → Type 0
  Keeps k r = register_of r k ≡ register_of s k

  read_registers : (i tape : ℕ) (g : Option ℕ) (k : ℕ) → (Some i ≡ Some k → ⊥) → Keeps k (received s i tape g)
  unfolding Keeps
  read_registers i tape None k h = beside s i k 0 h
  read_registers i tape (Some n) k h =
      either (Keeps k) (ltb tape 2) _ _
      (either (λ x. Keeps k (advanced (flagged (written x i n) false))) (eqb tape 0) (passed s) s (beside s i k n h) (beside s i k n h))
      (beside s i k 0 h)

  registers : (o : Operation) (g : Option ℕ) (k : ℕ) → ((changes o).destination ≡ Some k → ⊥) → Keeps k (stepped o g s)
  unfolding Keeps
  registers (Compute b i j a) g k h = beside s i k _ h
  registers (Not i a) g k h = beside s i k _ h
  registers (Compare b j a) g k h = refl
  registers (Move i a) g k h = beside s i k _ h
  registers (MoveIfFlag i a) g k h = either (λ x. Keeps k (advanced x)) s.flag (written s i (value_of s a)) s (beside s i k _ h) refl
  registers (Jump w a) g k h = either (Keeps k) (holds w s.flag) (jumped s (value_of s a)) (advanced s) refl refl
  registers (Store z i a) g k h = refl
  registers (Load z i a) g k h = beside s i k _ h
  registers (Read i a) g k h = read_registers i (value_of s a) g k h
  registers (Answer a) g k h = refl

  Flagged : Cpu → Type 0
  Flagged r = r.flag ≡ s.flag

  flag_stays : (o : Operation) (g : Option ℕ) → (changes o).flag ≡ false → Flagged (stepped o g s)
  unfolding Flagged
  flag_stays (Compute b i j a) g e = no_flag e
  flag_stays (Not i a) g e = no_flag e
  flag_stays (Compare b j a) g e = no_flag e
  flag_stays (Move i a) g e = refl
  flag_stays (MoveIfFlag i a) g e = either (λ x. Flagged (advanced x)) s.flag (written s i (value_of s a)) s refl refl
  flag_stays (Jump w a) g e = either Flagged (holds w s.flag) (jumped s (value_of s a)) (advanced s) refl refl
  flag_stays (Store z i a) g e = refl
  flag_stays (Load z i a) g e = refl
  flag_stays (Read i a) g e = no_flag e
  flag_stays (Answer a) g e = refl

  Goes : Cpu → Type 0
  Goes r = r.pc ≡ following s

  read_goes : (i tape : ℕ) (g : Option ℕ) → Goes (received s i tape g)
  unfolding Goes
  read_goes i tape None = refl
  read_goes i tape (Some n) =
      either Goes (ltb tape 2) _ _ (either (λ x. Goes (advanced (flagged (written x i n) false))) (eqb tape 0) (passed s) s refl refl) refl

  goes_on : (o : Operation) (g : Option ℕ) → (changes o).control ≡ false → Goes (stepped o g s)
  unfolding Goes
  goes_on (Compute b i j a) g e = refl
  goes_on (Not i a) g e = refl
  goes_on (Compare b j a) g e = refl
  goes_on (Move i a) g e = refl
  goes_on (MoveIfFlag i a) g e = either (λ x. Goes (advanced x)) s.flag (written s i (value_of s a)) s refl refl
  goes_on (Jump w a) g e = no_flag e
  goes_on (Store z i a) g e = refl
  goes_on (Load z i a) g e = refl
  goes_on (Read i a) g e = read_goes i (value_of s a) g
  goes_on (Answer a) g e = no_flag e

  Stays : Cpu → Type 0
  Stays r = r.place ≡ s.place

  read_word : (b c : Bool) (d : Demand) (i n : ℕ) → (cond c Primary d ≡ Primary → Some n ≡ None)
      → Stays (cond b (advanced (flagged (written (cond c (passed s) s) i n) false)) (advanced (flagged (written s i 0) true)))
  unfolding Stays
  read_word true true d i n h = let e = h refl in let z : ◌≡◌ {A = ℕ} 0 1 = cc in absurd (omega arith)
  read_word true false d i n h = refl
  read_word false c d i n h = refl

  read_stays : (i tape : ℕ) (g : Option ℕ) → (tape_asked tape ≡ Primary → g ≡ None) → Stays (received s i tape g)
  unfolding Stays
  read_stays i tape None h = refl
  read_stays i tape (Some n) h = read_word (ltb tape 2) (eqb tape 0) _ i n h

  place_stays : (o : Operation) (g : Option ℕ) → (asked o s ≡ Primary → g ≡ None) → Stays (stepped o g s)
  unfolding Stays
  place_stays (Compute b i j a) g h = refl
  place_stays (Not i a) g h = refl
  place_stays (Compare b j a) g h = refl
  place_stays (Move i a) g h = refl
  place_stays (MoveIfFlag i a) g h = either (λ x. Stays (advanced x)) s.flag (written s i (value_of s a)) s refl refl
  place_stays (Jump w a) g h = either Stays (holds w s.flag) (jumped s (value_of s a)) (advanced s) refl refl
  place_stays (Store z i a) g h = refl
  place_stays (Load z i a) g h = refl
  place_stays (Read i a) g h = read_stays i (value_of s a) g h
  place_stays (Answer a) g h = refl

  jump_pc : (w : Condition) (a : Operand) (b : Bool) → (cond b (jumped s (value_of s a)) (advanced s)).pc ≡ cond b (value_of s a) (following s)
  jump_pc w a true = refl
  jump_pc w a false = refl

  pub stepped_frame : (o : Operation) (g : Option ℕ) → Frame o g s (stepped o g s)
  unfolding Keeps Flagged Goes Stays
  stepped_frame o g = record {
    registers = registers o g;
    flag = flag_stays o g;
    next = goes_on o g;
    jump = λ w a e.
        subst (λ (x : Operation). (stepped x g s).pc ≡ cond (holds w s.flag) (value_of s a) (following s)) (sym e) (jump_pc w a (holds w s.flag));
    answer = λ a e. subst (λ (x : Operation). stepped x g s ≡ s) (sym e) refl;
    place = place_stays o g;
  }
