-- The number by which each refusal of a bag is known.
use Rattle.std.specs.Prelude.{ℕ}
use Rattle.bags.specs.declared.BagRefusal.{BagRefusal}
use Rattle.bags.specs.declared.BagRefusal.TheVariants.{Full, Empty}

abbrev pub bag_refusal_number : BagRefusal → ℕ
bag_refusal_number Full = 23
bag_refusal_number Empty = 24
