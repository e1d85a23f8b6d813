mod Output
mod Walking
mod Adding
mod Opening
