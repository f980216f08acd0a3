-- What stage, statuses, sweep and scan of the collector can be together, over a table of n cells.
use Rattle.std.proofs.Common.{◌≡◌, ℕ, ◌<◌, ◌≤◌, ◌≢◌, ◌⊎◌, sym, refl, subst₂, Some, None, Option}
use mathlib.Core.Path.{subst₃}
use Rattle.rules.specs.declared.Status.{Status}
use Rattle.rules.specs.declared.Status.TheVariants.{Async, Sync1, Sync2}
use Rattle.rules.specs.declared.Stage.{Stage}
use Rattle.rules.specs.declared.Stage.TheVariants.{Rest, Clear, Mark, Scan, Sweep}
use Rattle.rules.specs.declared.Swept.{Swept}
use Rattle.rules.specs.declared.Swept.TheVariants.{Before, At, Past}

pub record Places (stage : Stage) (asked phase : Status) (swept : Swept) (scanned : Option ℕ) (n : ℕ) : Type 0 where
  pub rest : stage ≡ Rest → (asked ≡ Async) × (phase ≡ Async) × (swept ≡ Past)
  pub clear : stage ≡ Clear → (asked ≡ Sync1) × (phase ≡ Async) × (swept ≡ Past)
  pub mark : stage ≡ Mark → swept ≡ Before
  pub mark_statuses : stage ≡ Mark → ((asked ≡ Sync2) × (phase ≡ Sync1)) ⊎ ((asked ≡ Async) × (phase ≢ Sync1))
  pub scan : stage ≡ Scan → (asked ≡ Async) × (phase ≡ Async) × (swept ≡ Before)
  pub scan_place : stage ≡ Scan → (k : ℕ) × ((scanned ≡ Some k) × (k ≤ n))
  pub sweep : stage ≡ Sweep → (asked ≡ Async) × (phase ≡ Async)
  pub sweep_place : stage ≡ Sweep → (k : ℕ) × ((swept ≡ At k) × (k < n))
  pub unscanned : stage ≢ Scan → scanned ≡ None

-- one of the five stages, with what belongs to it
pub in_rest : {n : ℕ} → Places Rest Async Async Past None n
in_rest = record {
  rest = λ e. (refl, refl, refl);
  clear = λ e. cc;
  mark = λ e. cc;
  mark_statuses = λ e. cc;
  scan = λ e. cc;
  scan_place = λ e. cc;
  sweep = λ e. cc;
  sweep_place = λ e. cc;
  unscanned = λ n. refl;
}

pub in_clear : {n : ℕ} → Places Clear Sync1 Async Past None n
in_clear = record {
  rest = λ e. cc;
  clear = λ e. (refl, refl, refl);
  mark = λ e. cc;
  mark_statuses = λ e. cc;
  scan = λ e. cc;
  scan_place = λ e. cc;
  sweep = λ e. cc;
  sweep_place = λ e. cc;
  unscanned = λ n. refl;
}

pub in_mark : {asked phase : Status} {n : ℕ} → ((asked ≡ Sync2) × (phase ≡ Sync1)) ⊎ ((asked ≡ Async) × (phase ≢ Sync1)) → Places Mark asked phase Before None n
in_mark statuses = record {
  rest = λ e. cc;
  clear = λ e. cc;
  mark = λ e. refl;
  mark_statuses = λ e. statuses;
  scan = λ e. cc;
  scan_place = λ e. cc;
  sweep = λ e. cc;
  sweep_place = λ e. cc;
  unscanned = λ n. refl;
}

pub in_scan : {k n : ℕ} → k ≤ n → Places Scan Async Async Before (Some k) n
in_scan {k} inside = record {
  rest = λ e. cc;
  clear = λ e. cc;
  mark = λ e. cc;
  mark_statuses = λ e. cc;
  scan = λ e. (refl, refl, refl);
  scan_place = λ e. (k, (refl, inside));
  sweep = λ e. cc;
  sweep_place = λ e. cc;
  unscanned = λ n. absurd (n refl);
}

pub in_sweep : {k n : ℕ} → k < n → Places Sweep Async Async (At k) None n
in_sweep {k} inside = record {
  rest = λ e. cc;
  clear = λ e. cc;
  mark = λ e. cc;
  mark_statuses = λ e. cc;
  scan = λ e. cc;
  scan_place = λ e. cc;
  sweep = λ e. (refl, refl);
  sweep_place = λ e. (k, (refl, inside));
  unscanned = λ n. refl;
}

-- the same places, told by equal words
pub placed : {stage stage' : Stage} {asked asked' phase phase' : Status} {swept swept' : Swept} {scanned scanned' : Option ℕ} {n : ℕ}
    → stage ≡ stage' → asked ≡ asked' → phase ≡ phase' → swept ≡ swept' → scanned ≡ scanned' → Places stage' asked' phase' swept' scanned' n → Places stage asked phase swept scanned n
placed {stage' = stage'} {asked' = asked'} {phase' = phase'} {swept = swept} {scanned = scanned} {n = n} a b c d e p =
    subst₃ (λ g q f. Places g q f swept scanned n) (sym a) (sym b) (sym c) (subst₂ (λ w k. Places stage' asked' phase' w k n) (sym d) (sym e) p)

pub at_same : {a b : ℕ} → ◌≡◌ {A = Swept} (At a) (At b) → a ≡ b
at_same e = cc
