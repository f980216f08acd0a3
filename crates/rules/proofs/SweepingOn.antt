-- The sweep's step to the next cell, and its return to Rest, keep the invariant.
use Rattle.std.proofs.Common.{◌≡◌, ℕ, ◌+◌, ◌<◌, ◌≤◌, true, sym, refl, ap, ◌∙◌, ⊎_elim, arith}
use Rattle.std.proofs.lemmas.Bool.{cases_eq, cases_lt}
use Rattle.cells.specs.declared.Colour.TheVariants.{Black}
use Rattle.rules.specs.declared.Stage.TheVariants.{Rest, Sweep}
use Rattle.rules.specs.declared.Swept.TheVariants.{At, Past}
use Rattle.rules.specs.State.{State}
use Rattle.rules.specs.Collecting.{sweep_to}
use Rattle.rules.proofs.Handshaking.{quiet_turn, traces_same}
use Rattle.rules.proofs.Words.{PassedBy, behind, looked_at, Passed}
use Rattle.rules.proofs.Places.{placed, in_rest, in_sweep, at_same}
use Rattle.rules.proofs.Invariant.{Invariant}

module _ (s : State) (I : Invariant s) (g : s.collector.stage ≡ Sweep) (k : ℕ) (place : s.collector.swept ≡ At k) (looked : s.collector.looked ≡ true) where
  -- the sweep is past each cell up to k
  past : (x : ℕ) → x ≤ k → Passed s x
  past x h = ⊎_elim
      (λ (e : x ≡ k). looked_at (place ∙ ap At (sym e)) looked)
      (λ (n : x ≡ k → ⊥). behind place (omega arith))
      (cases_eq x k)

  reached : (x : ℕ) → Passed s x → x ≤ k
  reached x (behind e l) = let same = at_same (sym e ∙ place) in omega arith
  reached x (looked_at e l) = let same = at_same (sym e ∙ place) in omega arith

  -- on to the next cell
  pub next_cell : k + 1 < s.cells.size → Invariant (sweep_to s (At (k + 1)) Sweep)
  next_cell more =
      let K = I.control in
      let at = K.places.sweep g in
      quiet_turn s I _ (λ e. cc) (λ e. cc)
      (record {
        places = placed refl at.0 at.1 refl (K.places.unscanned (λ e. cc)) (in_sweep more);
        nothing_traced = λ n o u. K.nothing_traced (λ e. cc) (λ e. cc) (traces_same refl u);
        statuses = K.statuses;
        scan_looked = λ e u j q. cc;
      })
      (record {
        cached = I.sweeps.cached;
        in_hand = I.sweeps.in_hand;
        rest_black = λ e. cc;
        clear_black = λ e. cc;
        behind = λ e x w. I.sweeps.behind g x (past x (back x w));
        ahead_used = λ e x u q. behind refl (let r = reached x (I.sweeps.ahead_used g x u q) in omega arith);
        ahead_made = λ e x u q. behind refl (let r = reached x (I.sweeps.ahead_made g x u q) in omega arith);
        new_value = I.sweeps.new_value;
        directory = λ e. cc;
      })
    where
      back : (x : ℕ) → PassedBy (sweep_to s (At (k + 1)) Sweep).collector x → x ≤ k
      back x (behind e l) = let same = at_same e in omega arith
      back x (looked_at e l) = cc

  -- back to Rest, past every cell
  pub returned : s.cells.size ≤ k + 1 → Invariant (sweep_to s Past Rest)
  returned all =
      let K = I.control in
      let at = K.places.sweep g in
      quiet_turn s I _ (λ e. cc) (λ e. cc)
      (record {
        places = placed refl at.0 at.1 refl (K.places.unscanned (λ e. cc)) in_rest;
        nothing_traced = λ n o u. K.nothing_traced (λ e. cc) (λ e. cc) (traces_same refl u);
        statuses = K.statuses;
        scan_looked = λ e u j q. cc;
      })
      (record {
        cached = I.sweeps.cached;
        in_hand = I.sweeps.in_hand;
        rest_black = λ e x b. I.sweeps.behind g x (past x (inside x b)) b;
        clear_black = λ e. cc;
        behind = λ e. cc;
        ahead_used = λ e. cc;
        ahead_made = λ e. cc;
        new_value = I.sweeps.new_value;
        directory = λ e. cc;
      })
    where
      inside : (x : ℕ) → s.cells.colour x ≡ Black → x ≤ k
      inside x b = ⊎_elim
          (λ (l : x < s.cells.size). omega arith)
          (λ (h : s.cells.size ≤ x). let w = I.structure.memory.no_cell x h in cc)
          (cases_lt x s.cells.size)
