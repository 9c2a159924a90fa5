-- How checks go on: what it tells that one came to an `Ok`.
use Rattle.std.proofs.Common.{◌≡◌, ℕ, Bool, true, false, ◌&&◌, Ok, Err, Result, sym, refl, subst, arith}
use Rattle.dossier.specs.declared.refusal.Refusal.{Refusal}
use Rattle.rules.specs.declared.finding.Rule.{Rule}
use Rattle.rules.specs.declared.finding.Finding.{Finding}
use Rattle.rules.specs.declared.progress.Unit as progress
use Rattle.rules.specs.Units.{then, unless, needed}

pub same_ok : {X E : Type 0} (x y : X) → ◌≡◌ {A = Result X E} (Ok x) (Ok y) → x ≡ y
same_ok x y h = cc

-- a chain that comes to an `Ok` comes through each link
pub went : {X Y : Type 0} (c : Result X Finding) (f : X → Result Y Finding) (y : Y) → then c f ≡ Ok y → (x : X) × (c ≡ Ok x) × (f x ≡ Ok y)
went (Ok x) f y e = (x, refl, e)
went (Err g) f y e = absurd (cc)

pub goes : {X Y : Type 0} (c : Result X Finding) (x : X) (f : X → Result Y Finding) (y : Y) → c ≡ Ok x → f x ≡ Ok y → then c f ≡ Ok y
goes (Ok x') x f y e h = let s = same_ok x' x e in rw s h
goes (Err g) x f y e h = absurd (cc)

-- a test that was tried
pub held : (b : Bool) (w : progress.Unit) (r : Rule) (u : Unit) → unless b w r ≡ Ok u → b ≡ true
held true w r u e = refl
held false w r u e = absurd (cc)

pub holds : (b : Bool) (w : progress.Unit) (r : Rule) → b ≡ true → unless b w r ≡ Ok tt
holds true w r e = refl
holds false w r e = absurd (cc)

-- a test first, then the rest
pub past_test : {Y : Type 0} (b : Bool) (w : progress.Unit) (r : Rule) (f : Unit → Result Y Finding) (y : Y) → then (unless b w r) f ≡ Ok y → (b ≡ true) × (f tt ≡ Ok y)
past_test true w r f y e = (refl, e)
past_test false w r f y e = absurd (cc)

pub with_test : {Y : Type 0} (b : Bool) (w : progress.Unit) (r : Rule) (f : Unit → Result Y Finding) (y : Y) → b ≡ true → f tt ≡ Ok y → then (unless b w r) f ≡ Ok y
with_test true w r f y t e = e
with_test false w r f y t e = absurd (cc)

-- what was needed was there
pub was_there : {R : Type 0} (w : progress.Unit) (a : Result R Refusal) (r : R) → needed w a ≡ Ok r → a ≡ Ok r
was_there w (Ok r') r e = let s = same_ok r' r e in rw s
was_there w (Err g) r e = absurd (cc)

-- an item that was needed and is there, and a test of it
pub found : {R : Type 0} (w : progress.Unit) (a : Result R Refusal) (r : R) (test : R → Bool) (rule : Rule) (u : Unit) → a ≡ Ok r
    → then (needed w a) (λ x. unless (test x) w rule) ≡ Ok u → test r ≡ true
found w (Ok r') r test rule u e h = let s = same_ok r' r e in subst (λ x. test x ≡ true) s (held (test r') w rule u h)
found w (Err g) r test rule u e h = absurd (cc)

pub finds : {R : Type 0} (w : progress.Unit) (a : Result R Refusal) (r : R) (test : R → Bool) (rule : Rule) → a ≡ Ok r
    → test r ≡ true → then (needed w a) (λ x. unless (test x) w rule) ≡ Ok tt
finds w (Ok r') r test rule e h = let s = same_ok r' r e in holds (test r') w rule (subst (λ x. test x ≡ true) (sym s) h)
finds w (Err g) r test rule e h = absurd (cc)
