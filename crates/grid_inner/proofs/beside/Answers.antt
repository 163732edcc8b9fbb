use Rattle.grid_inner.proofs.SignedLaws.{read_fits, cell_casts, width_casts, column_fits, rows_fits, sum_fits, sum_casts, sum_leads}
use Rattle.grid_inner.proofs.beside.Goals as goal

pub overflow_cast-result : goal.overflow_cast-result
overflow_cast-result c = cell_casts _ _ c.args.c c.args.dx c.args.dy c.requires.step c.requires.inner

pub overflow_cast-result-2 : goal.overflow_cast-result-2
overflow_cast-result-2 c = read_fits c.args.dx c.requires.step.columns

pub overflow_add-result : goal.overflow_add-result
overflow_add-result c = column_fits _ _ c.args.c c.args.dx c.args.dy c.requires.step c.requires.inner

pub overflow_cast-result-3 : goal.overflow_cast-result-3
overflow_cast-result-3 c = read_fits c.args.dy c.requires.step.rows

pub overflow_cast-result-4 : goal.overflow_cast-result-4
overflow_cast-result-4 c = width_casts _ _ c.args.c c.args.dx c.args.dy c.requires.step c.requires.inner

pub overflow_mul-result : goal.overflow_mul-result
overflow_mul-result c = rows_fits _ _ c.args.c c.args.dx c.args.dy c.requires.step c.requires.inner

pub overflow_add-result-2 : goal.overflow_add-result-2
overflow_add-result-2 c = sum_fits _ _ c.args.c c.args.dx c.args.dy c.requires.step c.requires.inner

pub overflow_cast-result-5 : goal.overflow_cast-result-5
overflow_cast-result-5 c = sum_casts _ _ c.args.c c.args.dx c.args.dy c.requires.step c.requires.inner

pub returns : goal.returns
returns c = sum_leads _ _ c.args.c c.args.dx c.args.dy c.requires.step c.requires.inner
