-- Numbers of at most 38 digits, which are those that a token holds.
use Rattle.std.specs.Prelude.{◌<◌, ◌^◌, List}
use Rattle.std.specs.List.{AllByRecursion}
use Rattle.lv_lexer.specs.declared.terminals.Terminal.{Terminal}

abbrev pub IsSmall : Terminal → Type 0
IsSmall t = t.number < 10 ^ 38

abbrev pub AreSmall : List Terminal → Type 0
AreSmall = AllByRecursion IsSmall
