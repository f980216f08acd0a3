-- The collector's turns in Rest and Clear keep the invariant.
use Rattle.std.proofs.Common.{◌≡◌, ℕ, zero, suc, ◌<◌, true, false, ◌≢◌, Some, Option, sym, refl, ap, ◌∙◌, subst, inl, inr, ⊎_elim, arith}
use Rattle.std.proofs.lemmas.Bool.{cases_eq, cases_Bool, cond-true, cond-false, and_parts}
use Rattle.bags.specs.Holding.{Hold}
use Rattle.rules.specs.declared.Status.{Status}
use Rattle.rules.specs.declared.Status.TheVariants.{Sync1, Sync2}
use Rattle.rules.specs.declared.Stage.TheVariants.{Rest, Clear, Mark, Scan}
use Rattle.rules.specs.declared.Swept.TheVariants.{Before}
use Rattle.rules.specs.declared.Collector.{Collector}
use Rattle.rules.specs.State.{Task, State, Outcome, with_collector}
use Rattle.rules.specs.Collecting.{agrees, agree_to, all_agree, rest, clearing}
use Rattle.rules.proofs.TaskTurns.{same_status_lem}
use Rattle.rules.proofs.Words.{made_by, Traces, in_hand, in_cache, SecondHalfOf, mark, scan}
use Rattle.rules.proofs.Places.{placed, in_clear, in_mark}
use Rattle.rules.proofs.Invariant.{Structure, Control, Works, Sweeps, MarksSecond, Invariant}
use Rattle.rules.proofs.Slots.{slot_below}

-- what does not look at the collector
pub structure_same : (s : State) (co : Collector) → Structure s → Structure (with_collector s co)
structure_same s co S = record {
  some = S.some;
  within = S.within;
  memory = S.memory;
  links = S.links;
  free_fair = S.free_fair;
  cache_fair = S.cache_fair;
  free_room = S.free_room;
  cache_room = S.cache_room;
  slots = S.slots;
  registers = S.registers;
  pools = S.pools;
  account = S.account;
}

pub works_same : (s : State) (co : Collector) → Works s → Works (with_collector s co)
works_same s co W = record {
  cell_held = W.cell_held;
  value_held = W.value_held;
  link_there = W.link_there;
  grey_step = W.grey_step;
  warn_step = W.warn_step;
  made_apart = W.made_apart;
  made_once = W.made_once;
}

-- nor more than the hand
pub traces_same : {a b : Collector} {cache : Hold} → b.hand ≡ a.hand → Traces b cache → Traces a cache
traces_same e (in_hand h) = in_hand (λ q. h (e ∙ q))
traces_same e (in_cache l) = in_cache l

-- a turn of the collector alone that ends outside Mark and Scan leaves little to show
pub quiet_turn : (s : State) → Invariant s → (co : Collector) → co.stage ≢ Mark → co.stage ≢ Scan → Control (with_collector s co) → Sweeps (with_collector s co) → Invariant (with_collector s co)
quiet_turn s I co unmarked unscanned control sweeps = record {
  structure = structure_same s co I.structure;
  control = control;
  works = works_same s co I.works;
  safe = I.safe;
  new_cells = record {
    unsettled = I.new_cells.unsettled;
    settled = I.new_cells.settled;
    in_mark = λ m x a t p q e h. absurd (unmarked h);
    in_scan = λ m x a t p q e h. absurd (unscanned h);
  };
  sweeps = sweeps;
  first_half = λ h. absurd (unmarked h.0);
  Cut = I.Cut;
  second_half = none;
}
  where
    none : SecondHalfOf co → MarksSecond (with_collector s co) I.Cut
    none (mark e n) = absurd (unmarked e)
    none (scan e) = absurd (unscanned e)

agree_each : (k : ℕ) (q : Status) (tasks : ℕ → Option Task) → agree_to k q tasks ≡ true → (m : ℕ) → m < k → (t : Task) → tasks m ≡ Some t → t.status ≡ q
agree_each zero q tasks e m l t p = absurd (omega arith)
agree_each (suc k) q tasks e m l t p = ⊎_elim
    (λ (same : m ≡ k). same_status_lem t.status q (sym (ap (agrees q) (ap tasks (sym same) ∙ p)) ∙ (and_parts (agrees q (tasks k)) (agree_to k q tasks) e).0))
    (λ (n : m ≡ k → ⊥). agree_each k q tasks (and_parts (agrees q (tasks k)) (agree_to k q tasks) e).1 m (omega arith) t p)
    (cases_eq m k)

-- every present task agrees
pub all_agree_lem : (s : State) → Invariant s → all_agree s ≡ true → (m : ℕ) (t : Task) → s.tasks m ≡ Some t → t.status ≡ s.collector.status
all_agree_lem s I e m t p = agree_each 8 s.collector.status s.tasks e m (slot_below I.structure.slots m t p) t p

pub rest_kept : (s : State) → Invariant s → s.collector.stage ≡ Rest → Invariant (rest s).after
rest_kept s I g =
    let K = I.control in
    let at = K.places.rest g in
    quiet_turn s I _ (λ e. cc) (λ e. cc)
    (record {
      places = placed refl refl at.1 at.2 (K.places.unscanned (λ e. cc)) in_clear;
      nothing_traced = λ n k u. K.nothing_traced (λ e. cc) (λ e. cc) (traces_same refl u);
      statuses = λ m t p. inr (⊎_elim (λ e. e ∙ at.0 ∙ sym at.1) (λ e. e) (K.statuses m t p));
      scan_looked = λ e u k q. cc;
    })
    (record {
      cached = I.sweeps.cached;
      in_hand = I.sweeps.in_hand;
      rest_black = λ e. cc;
      clear_black = λ e. I.sweeps.rest_black g;
      behind = λ e. cc;
      ahead_used = λ e. cc;
      ahead_made = λ e. cc;
      new_value = I.sweeps.new_value;
      directory = λ e. cc;
    })

-- marking begins, once every task has seen the collector leave Rest
abbrev marks : State → State
marks s = with_collector s (record { status = Sync2; phase = Sync1; swept = Before; scanned = s.collector.scanned; dirty = s.collector.dirty; stage = Mark; next = 0; looked = s.collector.looked; hand = s.collector.hand })

began_marking : (s : State) → Invariant s → s.collector.stage ≡ Clear → all_agree s ≡ true → Invariant (marks s)
began_marking s I g agree =
    let K = I.control in
    let at = K.places.clear g in
    record {
      structure = structure_same s _ I.structure;
      control = record {
        places = placed refl refl refl refl (K.places.unscanned (λ e. cc)) (in_mark (inl (refl, refl)));
        nothing_traced = λ n k u. n refl;
        statuses = λ m t p. inr (all_agree_lem s I agree m t p ∙ at.0);
        scan_looked = λ e u k q. cc;
      };
      works = works_same s _ I.works;
      safe = I.safe;
      new_cells = record {
        unsettled = I.new_cells.unsettled;
        settled = I.new_cells.settled;
        in_mark = λ m x a t p q e h. let is = all_agree_lem s I agree m t p ∙ at.0 in cc;
        in_scan = λ m x a t p q e h. cc;
      };
      sweeps = record {
        cached = I.sweeps.cached;
        in_hand = I.sweeps.in_hand;
        rest_black = λ e. cc;
        clear_black = λ e. cc;
        behind = λ e. cc;
        ahead_used = λ e. cc;
        ahead_made = λ e. cc;
        new_value = I.sweeps.new_value;
        directory = λ e c l h. absurd (omega arith);
      };
      first_half = λ h. record {
        black_to_shaded = λ x i c k b n a e. let made = I.sweeps.clear_black g x b in absurd (k.1 (made_by made.0 false made.1.1.0 made.1.1.1));
        changed_link = λ m x i c y step t p q h e. let is = all_agree_lem s I agree m t p ∙ at.0 in cc;
      };
      Cut = I.Cut;
      second_half = none;
    }
  where
    none : SecondHalfOf (marks s).collector → MarksSecond (marks s) I.Cut
    none (mark e n) = absurd (n refl)
    none (scan e) = cc

pub clearing_kept : (s : State) → Invariant s → s.collector.stage ≡ Clear → Invariant (clearing s).after
clearing_kept s I g = ⊎_elim
    (λ (e : all_agree s ≡ true). subst (λ (o : Outcome). Invariant o.after) (sym (cond-true (all_agree s) _ _ e)) (began_marking s I g e))
    (λ (e : all_agree s ≡ false). subst (λ (o : Outcome). Invariant o.after) (sym (cond-false (all_agree s) _ _ e)) I)
    (cases_Bool (all_agree s))
