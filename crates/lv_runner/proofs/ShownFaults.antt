-- What a line is refused with names no table and no disk.
use Rattle.std.proofs.Common.{◌≡◌, true, false, refl}
use Rattle.lv_bind.specs.Reads.{is_shown_by_line, reads}
use Rattle.lv_bind.proofs.AllowedLines.{reads_shown}
use Rattle.lv_plain.specs.GivenEntries.{BlamesNoDisk}
use Rattle.lv_plain.specs.Legal.{is_store}
use Rattle.lv_plain.specs.Named.{IsNamedFault, NamesNoTable, nothing_in_use}
use Rattle.lv_schema.specs.declared.fault.Fault.{Fault}
use Rattle.lv_schema.specs.declared.fault.Fault.TheVariants as fault

shown_is : (f : Fault) → is_shown_by_line f ≡ true → (is_store f ≡ false) × IsNamedFault nothing_in_use f
shown_is (fault.Syntax byte) h = (refl, tt)
shown_is (fault.Unknown name) h = (refl, tt)
shown_is (fault.Ambiguous name) h = (refl, tt)
shown_is (fault.InUse name) h = (refl, tt)
shown_is (fault.Kinds byte) h = (refl, tt)
shown_is (fault.Limit which most) h = (refl, tt)
shown_is (fault.Profile rule) h = (refl, tt)
shown_is fault.NotSetup h = (refl, tt)
shown_is fault.InTransaction h = (refl, tt)
shown_is fault.NoTransaction h = (refl, tt)
shown_is (fault.KeyAssigned name) h = (refl, tt)
shown_is (fault.Range number) h = (refl, tt)
shown_is (fault.Duplicate table key) h = absurd cc
shown_is (fault.TableFull table) h = absurd cc
shown_is (fault.Conflict table key commit) h = absurd cc
shown_is (fault.MergedFull table) h = absurd cc
shown_is fault.Store h = absurd cc
shown_is (fault.JournalFull need limit) h = absurd cc

pub blames_no_disk : BlamesNoDisk reads
blames_no_disk tables views setup live line f e = (shown_is f (reads_shown tables views setup live line f e)).0

pub names_no_table : NamesNoTable reads
names_no_table tables views setup live line f e = (shown_is f (reads_shown tables views setup live line f e)).1
