mod Taking
mod Made
