use Prim.Native.Nat.{◌-◌, ◌/◌, ◌%◌}
use Rattle.mapper.specs.Text.{head_line}
use Rattle.mapper.proofs.Writing.{head_put}
use Rattle.mapper.proofs.text.put_head.Goals as goal

pub returns : goal.returns
unfolding head_line
returns c = let a = c.args in
    head_put a.out.now (a.row - 1) a.inputs a.outputs (a.lines / 256) (a.lines % 256) c.put_byte.ensures c.put_byte-2.ensures c.put_byte-3.ensures c.put_byte-4.ensures c.put_word.ensures c.put.ensures
