-- The first states of the stacks over tables that some lender lent.
use Rattle.std.specs.Prelude.{ℕ, List}
use Rattle.register.specs.Board as board
use Rattle.register.specs.Store as store
use Rattle.resources.specs.declared.board.PlotRecord.{PlotRecord}
use Rattle.resources.specs.declared.store.FileRecord.{FileRecord}
use Rattle.resources.specs.Plots.{plots_of}
use Rattle.resources.specs.Files.{records_of}
use Rattle.office.specs.Stacks.{office_meaning, plots_meaning, made, plots_made}

abbrev pub plot_table : ℕ → List PlotRecord → board.Table
plot_table lender plots = record { lender = lender; plots = plots_of plots }

abbrev pub file_table : ℕ → List FileRecord → store.Table
file_table lender files = record { lender = lender; records = records_of files }

abbrev pub office_over : (a b : ℕ) → List PlotRecord → List FileRecord → office_meaning.State
office_over a b plots files = made (plot_table a plots) (file_table b files)

abbrev pub plots_over : (a b : ℕ) → List PlotRecord → List FileRecord → plots_meaning.State
plots_over a b plots files = plots_made (plot_table a plots) (file_table b files)
