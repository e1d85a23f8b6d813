mod Members
mod Named
