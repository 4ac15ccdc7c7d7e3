use Rattle.lv_forms.proofs.numbers_binary.+read_low.Given as goal

abbrev pub decreases-read_low : goal.decreases-read_low
decreases-read_low l = l.count
