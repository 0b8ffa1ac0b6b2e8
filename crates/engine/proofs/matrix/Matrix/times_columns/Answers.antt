-- Each turn puts one more column of the product in its place.
use Rattle.engine.proofs.Joins.{column_more}
use Rattle.engine.proofs.matrix.Matrix.times_columns.Goals as goal

pub loop-j-preserved : goal.loop-j-preserved
loop-j-preserved g c =
    column_more _ _ _ c.args.second.now c.loop-j.j c.loop-j.second c.times_column.new.out c.put_column.new.m c.loop-j-test.true
    c.times_column.ensures.times c.times_column.ensures.normal c.put_column.ensures.there c.put_column.ensures.normal c.loop-j.invariant
