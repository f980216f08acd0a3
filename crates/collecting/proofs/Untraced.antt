-- In Scan, with a place and nothing to trace, the collector's turn is the scan's.
use Rattle.std.proofs.Common.{◌≡◌, ◌≢◌, ◌≤◌, false, eqb, None, Option, length, sym, ap, ◌∙◌, ℕ, Some}
use Rattle.std.specs.Option.{is_none}
use Rattle.std.proofs.lemmas.Bool.{cond-false, ne_eqb, le-ltb}
use Rattle.rules.specs.declared.Hand.{Hand}
use Rattle.rules.specs.declared.Stage.TheVariants.{Scan}
use Rattle.rules.specs.State.{State, Outcome}
use Rattle.bags.specs.Holding.{has_member}
use Rattle.rules.specs.Collecting.{by_stage, collect, scanning, tracing, waits}
use Rattle.collecting.specs.Gathering.{scan_on}

nothing_traced : (s : State) (others : Outcome) → s.collector.hand ≡ None → has_member s.cache ≡ false → tracing s s.collector.hand others ≡ others
nothing_traced s others free_hand empty = ap (λ (h : Option Hand). tracing s h others) free_hand ∙ cond-false (has_member s.cache) _ _ empty

scan_at : (s : State) → s.collector.hand ≡ None → has_member s.cache ≡ false → (place : Option ℕ) → is_none place ≡ false → scanning s place ≡ scan_on s place
scan_at s free_hand empty None placed = cc
scan_at s free_hand empty (Some k) placed = nothing_traced s _ free_hand empty

pub scan_is_collect : (s : State) → s.directory ≢ 0 → s.collector.stage ≡ Scan → s.collector.hand ≡ None → length s.cache.members ≤ 0
    → is_none s.collector.scanned ≡ false → scan_on s s.collector.scanned ≡ collect s
scan_is_collect s set_up here free_hand empty placed =
    sym (
    cond-false (eqb s.directory 0) (waits s) _ (ne_eqb s.directory 0 set_up)
    ∙ ap (by_stage s) here
    ∙ scan_at s free_hand (le-ltb 0 (length s.cache.members) empty) s.collector.scanned placed)
