-- Cells that go from the free list to a pool, one after the other.
use Rattle.std.proofs.Common.{◌≡◌, ℕ, suc, ◌+◌, ◌<◌, true, List, ◌∷◌, length, Some, None, Option, sym, refl, ap, ◌∙◌, add-one, arith}
use Rattle.std.proofs.lemmas.Bool.{cond-true, lt-ltb}
use Rattle.cells.specs.Memory.{at}
use Rattle.bags.specs.Holding.{Hold, Fair, has_member}
use Rattle.rules.specs.State.{Task, State, grown, with_pool}
use Rattle.rules.specs.Pools.{left, drawn, with_drawn, reserving}
use Rattle.rules.proofs.States.{at_here, at_again, task_as_it_was}
use Rattle.rules.proofs.Checked.{Reserves}
use Rattle.rules.proofs.Drawn.{left_count, drawn_count}
use Rattle.tasks.specs.Parts.{with_grown}
use Rattle.turns.specs.Moves.{drawing}

drawn_none : (h : Hold) (o : Option Task) → with_drawn 0 h o ≡ o
drawn_none h None = refl
drawn_none h (Some t) = refl

module _ (s : State) (m : ℕ) where
  pub none_drawn : s ≡ reserving s m 0
  none_drawn = sym (task_as_it_was s m (with_drawn 0 s.free (s.tasks m)) (sym (drawn_none s.free (s.tasks m))))

  module _ (wanted : ℕ) (found : Reserves s.directory (length s.free.members) s.tasks m wanted) (fair : Fair s.free.manner) (k : ℕ) (due : k < wanted) where
    pool : List ℕ
    pool = drawn k s.free found.task.pool

    next : ℕ
    next = (left k s.free).manner.choice (left k s.free).members

    member : has_member (left k s.free) ≡ true
    member = lt-ltb 0 (length (left k s.free).members) (omega (arith, found.many, left_count k s.free fair (omega (arith, found.many))))

    place : grown pool next ≡ next ∷ pool
    unfolding pool next
    place = cond-true _ _ _ (lt-ltb (length pool) 4 (omega (arith, found.many, found.place, drawn_count k s.free found.task.pool)))

    slot : with_grown ((reserving s m k).tasks m) next ≡ with_drawn (suc k) s.free (s.tasks m)
    unfolding pool next
    slot =
        ap (λ o. with_grown o next) (at_here m (with_drawn k s.free (s.tasks m)) s.tasks ∙ ap (with_drawn k s.free) found.present)
        ∙ ap (λ p. Some (with_pool found.task p)) place ∙ ap (with_drawn (suc k) s.free) (sym found.present)

    pub one_drawn : drawing m (reserving s m k) ≡ reserving s m (k + 1)
    unfolding next
    one_drawn =
        cond-true _ _ _ member
        ∙ ap (λ ts. record { cells = s.cells; links = s.links; free = left (suc k) s.free; cache = s.cache; directory = s.directory; tasks = ts; collector = s.collector })
        (at_again m (with_drawn k s.free (s.tasks m)) _ s.tasks ∙ ap (λ o. at m o s.tasks) slot)
        ∙ ap (reserving s m) (sym (add-one k))
