-- What is seen of a value in place: its number, or its bytes.
use Rattle.lv_values.specs.declared.value.Value.{Value}
use Rattle.lv_values.specs.declared.value.Value.TheVariants.{Num, Text}
use Rattle.lv_schema.specs.declared.holding.Seen.{Seen}
use Rattle.lv_schema.specs.declared.holding.Seen.TheVariants.{Number, Bytes}

abbrev pub value_seen : Seen → Value
value_seen (Number n) = Num n
value_seen (Bytes t) = Text t.now
