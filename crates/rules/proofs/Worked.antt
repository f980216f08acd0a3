-- The worked examples hold of the definitions.
use Rattle.std.proofs.Common.{◌≡◌, ℕ, zero, suc, ◌+◌, ◌<◌, ◌≤◌, true, false, ◌&&◌, ltb, leb, Some, refl, ap, ◌∙◌, arith, Option}
use Rattle.std.proofs.lemmas.Bool.Decides.{nat_tests}
use Rattle.std.proofs.lemmas.Bool.{cond-true, cond-false}
use Rattle.rules.specs.declared.Refusal.TheVariants.{MemorySize, DirectorySize}
use Rattle.rules.specs.State.{State, accepted, refused, by}
use Rattle.rules.specs.SettingUp.{begun, fit_bags, set_up}
use Rattle.rules.specs.Greying.{is_black}
use Rattle.rules.specs.Collecting.{blacken, overflowed}
use Rattle.bags.specs.Holding.{has_room}
use Rattle.rules.specs.Examples.{WorkedExamples, first_return, loop}

set_up_accepted : (s : State) (d : ℕ) → 0 < s.cells.size → s.cells.size ≤ 4096 → 0 < d → d ≤ 64 → d ≤ s.cells.size → fit_bags s d ≡ true → set_up d s ≡ accepted 0 (begun s d)
set_up_accepted s d some few first most within fit =
    let size : ltb 0 s.cells.size && leb s.cells.size 4096 ≡ true = grind (arith, nat_tests) in
    let directory : ltb 0 d && (leb d 64 && leb d s.cells.size) ≡ true = grind (arith, nat_tests) in
    ap (λ c. by s c (λ _. accepted 0 (begun s d))) (cond-true _ _ _ size ∙ cond-true _ _ _ directory ∙ cond-true (fit_bags s d) _ _ fit)

size_refused : (s : State) (d : ℕ) → ltb 0 s.cells.size && leb s.cells.size 4096 ≡ false → set_up d s ≡ refused MemorySize s
size_refused s d bad = ap (λ c. by s c (λ _. accepted 0 (begun s d))) (cond-false _ _ _ bad)

directory_refused : (s : State) (d : ℕ) → 0 < s.cells.size → s.cells.size ≤ 4096 → ltb 0 d && (leb d 64 && leb d s.cells.size) ≡ false → set_up d s ≡ refused DirectorySize s
directory_refused s d some few bad =
    let size : ltb 0 s.cells.size && leb s.cells.size 4096 ≡ true = grind (arith, nat_tests) in
    ap (λ c. by s c (λ _. accepted 0 (begun s d))) (cond-true _ _ _ size ∙ cond-false _ _ _ bad)

-- a cell that finds no place in the cache
overflow : (s : State) (v : ℕ) (p : Option ℕ) → is_black (s.cells.colour v) ≡ false → has_room s.cache ≡ false → s.collector.scanned ≡ p → (blacken s v).collector.dirty ≡ overflowed v p s.collector.dirty
overflow s v p colour full place =
    ap (λ (x : State). x.collector.dirty) (cond-false _ _ _ colour ∙ cond-false _ _ _ full) ∙ ap (λ q. overflowed v q s.collector.dirty) place

cycle_turns : (L : ℕ) → 1 ≤ L → L ≤ 8 → first_return 20 (loop L) ≡ Some (12 + L)
cycle_turns zero some few = absurd (omega arith)
cycle_turns (suc zero) some few = refl
cycle_turns (suc (suc zero)) some few = refl
cycle_turns (suc (suc (suc zero))) some few = refl
cycle_turns (suc (suc (suc (suc zero)))) some few = refl
cycle_turns (suc (suc (suc (suc (suc zero))))) some few = refl
cycle_turns (suc (suc (suc (suc (suc (suc zero)))))) some few = refl
cycle_turns (suc (suc (suc (suc (suc (suc (suc zero))))))) some few = refl
cycle_turns (suc (suc (suc (suc (suc (suc (suc (suc zero)))))))) some few = refl
cycle_turns (suc (suc (suc (suc (suc (suc (suc (suc (suc k))))))))) some few = absurd (omega arith)

pub worked_examples_lem : WorkedExamples
worked_examples_lem = record {
  cells_4096 = λ s d size first most fit. set_up_accepted s d (omega arith) (omega arith) first most (omega arith) fit;
  cells_4097 = λ s d size. size_refused s d (grind (arith, nat_tests));
  directory_64 = λ s size fit. set_up_accepted s 64 (omega arith) (omega arith) (omega arith) (omega arith) (omega arith) fit;
  directory_none = λ s some few. directory_refused s 0 some few refl;
  directory_65 = λ s some few. directory_refused s 65 some few refl;
  directory_past_all = λ s some few. directory_refused s (s.cells.size + 1) some few (grind (arith, nat_tests));
  settle_above = refl;
  settle_at = refl;
  settle_below = refl;
  settle_unswept = refl;
  settle_swept = refl;
  settle_sync = λ swept. refl;
  warn_above = λ dirty. refl;
  warn_unscanned = λ dirty. refl;
  warn_at = λ dirty. refl;
  overflow_at = λ s colour full place. overflow s 3 (Some 3) colour full place;
  overflow_passed = λ s colour full place. overflow s 3 (Some 4) colour full place;
  cycle = cycle_turns;
  cycle_board = refl;
  cycle_bytes = refl;
  twelve_bytes = λ bytes size. omega arith;
  grey_bytes = λ a b c d e f g h i j k l. refl;
}
