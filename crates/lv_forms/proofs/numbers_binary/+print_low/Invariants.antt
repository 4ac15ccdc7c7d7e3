use Rattle.lv_forms.proofs.numbers_binary.+print_low.Given as goal

abbrev pub decreases-print_low : goal.decreases-print_low
decreases-print_low l = l.count
