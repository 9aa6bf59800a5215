use Rattle.std.proofs.Common.{◌≤◌, arith, length, length-append}
use Rattle.rkt_ignition.proofs.Layers.{layer_next, layers_begin, layers_end}
use Rattle.rkt_ignition.proofs.reach.reached.Goals as goal

pub loop-layer-init : goal.loop-layer-init
loop-layer-init c = record {
  within = omega arith;
  left = layers_begin c.args.nodes.now c.add_children.new.positions c.new-positions.result c.new-positions.ensures c.in_ok-add_children.ensures;
}

pub add_layer-requires : goal.add_layer-requires
add_layer-requires c = c.loop-layer.invariant.within

pub loop-layer-preserved : goal.loop-layer-preserved
loop-layer-preserved c =
    let longer : c.len-end.result ≤ length c.add_layer.new.positions = rw (c.in_ok-add_layer.ensures, length-append c.loop-layer.positions _) (omega (arith, c.len-end.ensures)) in
    record {
      within = longer;
      left = layer_next c.args.nodes.now (length c.args.nodes.now) c.loop-layer._layer c.loop-layer.from c.len-end.result c.loop-layer.positions c.add_layer.new.positions _ c.loop-layer-test.true
          c.len-end.ensures c.in_ok-add_layer.ensures c.loop-layer.invariant.left;
    }

pub returns : goal.returns
returns c = layers_end c.args.nodes.now (length c.args.nodes.now) c.loop-layer._layer c.loop-layer.from c.loop-layer.positions _ c.loop-layer-test.false c.loop-layer.invariant.left
