-- One turn: a call, by its rule.
use Rattle.rules.specs.declared.Call.{Call}
use Rattle.rules.specs.declared.Call.TheVariants.{Enter, Launch, Leave, Point, Move, Clear, Load, Reserve, GiveBack, Make, CarryOn, Fill, Finish, Scrap, Change, Cooperate, Collect}
use Rattle.rules.specs.State.{State, Outcome}
use Rattle.rules.specs.Tasks.{enter, leave, point, move, clear, load}
use Rattle.rules.specs.Pools.{reserve, give_back}
use Rattle.rules.specs.Makings.{make, fill, finish, scrap}
use Rattle.rules.specs.Changes.{carry_on, change}
use Rattle.rules.specs.Handshake.{launch, cooperate}
use Rattle.rules.specs.Collecting.{collect}

abbrev pub rule_of : Call → State → Outcome
rule_of (Enter p) = enter p
rule_of (Launch m p mask) = launch m p mask
rule_of (Leave m) = leave m
rule_of (Point m j b) = point m j b
rule_of (Move m a b) = move m a b
rule_of (Clear m b) = clear m b
rule_of (Load m a i b) = load m a i b
rule_of (Reserve m) = reserve m
rule_of (GiveBack m) = give_back m
rule_of (Make m) = make m
rule_of (CarryOn m) = carry_on m
rule_of (Fill m i a) = fill m i a
rule_of (Finish m x b) = finish m x b
rule_of (Scrap m x) = scrap m x
rule_of (Change m a i b) = change m a i b
rule_of (Cooperate m) = cooperate m
rule_of Collect = collect
